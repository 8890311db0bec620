use Rattle.std.proofs.Common.{◌≡◌, ◌+◌, ◌-◌, ◌<◌, length, take, sym, ap, ◌∙◌, arith}
use Rattle.disk_change.specs.Patched.{patched}
use Rattle.disk_change.specs.Seat.{blocks_to_last_row}
use Rattle.disk_change.proofs.Rewriting.{end_stays, end_moves}
use Rattle.disk_change.proofs.patch.end_of.Goals as goal

pub loop-end-preserved : goal.loop-end-preserved
loop-end-preserved c =
    let blocks = patched c.args.patch.now c.args.slots.now in
    let same : c.loop-end.end - 1 + 1 ≡ c.loop-end.end = omega (arith, c.loop-end-test.true) in
    let within : c.loop-end.end - 1 < length blocks = omega (arith, c.loop-end-test.true, c.loop-end.invariant.within) in
    record {
      same =
          sym (end_stays blocks (c.loop-end.end - 1) within (sym c.is_empty_at.ensures ∙ c.if-is_empty_at.true))
          ∙ ap (λ n. blocks_to_last_row (take n blocks)) same ∙ c.loop-end.invariant.same;
      within = omega (arith, within);
    }

pub returns-else-is_empty_at : goal.returns-else-is_empty_at
returns-else-is_empty_at c =
    let blocks = patched c.args.patch.now c.args.slots.now in
    let same : c.loop-end.end - 1 + 1 ≡ c.loop-end.end = omega (arith, c.loop-end-test.true) in
    let within : c.loop-end.end - 1 < length blocks = omega (arith, c.loop-end-test.true, c.loop-end.invariant.within) in
    sym
    (sym c.loop-end.invariant.same ∙ ap (λ n. blocks_to_last_row (take n blocks)) (sym same)
    ∙ end_moves blocks (c.loop-end.end - 1) within (sym c.is_empty_at.ensures ∙ c.if-is_empty_at.false) ∙ same)
