use Rattle.std.proofs.Common.{◌-◌, ◌∙◌, length, sym, ap, arith}
use Rattle.std.proofs.lemmas.List.{length-set, nil_from_length}
use Rattle.fsync_values.proofs.Lent.{lent_long, back_step, never_empty, skip_step}
use Rattle.fsync_values.proofs.lending.restore.Goals as goal

pub loop-at-preserved-in-Some : goal.loop-at-preserved-in-Some
loop-at-preserved-in-Some c =
    let at = c.loop-at.at in
    let now = c.loop-at.values.items in
    let within = c.loop-at.invariant.within in
    let some = c.loop-at-test.true in
    record {
      restored = λ nodes was lent.
          let so_far = c.loop-at.invariant.restored nodes was lent in
          let long = ap length so_far.values ∙ lent_long at was in
          back_step at nodes was now c.loop-at.entries.items c.index.result.now some (omega (arith, within, long)) c.index.ensures so_far
          c.index_mut.result.now c.put_one.new.value c.pop.new.self.items c.in-Some.entry (sym c.has_old.ensures ∙ c.if-has_old.true)
          c.index_mut.ensures.value c.in-Some.ensures.items c.put_one.ensures;
      within = let same = length-set now (at - 1) c.put_one.new.value in omega (arith, within, same);
    }

pub loop-at-preserved-in_default : goal.loop-at-preserved-in_default
loop-at-preserved-in_default c =
    let at = c.loop-at.at in
    let now = c.loop-at.values.items in
    let within = c.loop-at.invariant.within in
    let some = c.loop-at-test.true in
    record {
      restored = λ nodes was lent.
          let so_far = c.loop-at.invariant.restored nodes was lent in
          let long = ap length so_far.values ∙ lent_long at was in
          let none = c.in_default.ensures.cases.0 in
          let same = c.loop-at.entries.ok.0 in
          absurd
          (never_empty at nodes was now c.loop-at.entries.items c.index.result.now some (omega (arith, within, long)) c.index.ensures so_far
          (sym c.has_old.ensures ∙ c.if-has_old.true) (nil_from_length c.loop-at.entries.items (omega (arith, none, same))));
      within = omega (arith, within);
    }

pub loop-at-preserved : goal.loop-at-preserved
loop-at-preserved c =
    let at = c.loop-at.at in
    let now = c.loop-at.values.items in
    let within = c.loop-at.invariant.within in
    let some = c.loop-at-test.true in
    record {
      restored = λ nodes was lent.
          let so_far = c.loop-at.invariant.restored nodes was lent in
          let long = ap length so_far.values ∙ lent_long at was in
          skip_step at nodes was now c.loop-at.entries.items c.index.result.now some (omega (arith, within, long)) c.index.ensures so_far
          (sym c.has_old.ensures ∙ c.if-has_old.false);
      within = omega (arith, within);
    }
