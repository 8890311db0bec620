-- Slot after slot: what was found are the open ones, and the first wrong one is refused.
use Rattle.std.proofs.Common.{◌≡◌, ℕ, ◌+◌, ◌∙◌, ◌<◌, ◌≤◌, List, [], ◌∷◌, ◌++◌, length, length-append, Option, None, Some, map, ap, arith, sym, subst}
use Rattle.std.specs.Option.{option_to_list}
use Rattle.std.specs.List.{AllByRecursion}
use Rattle.sfs_image.specs.Settled.{slot_count}
use Rattle.sfs_image.specs.Super.{IsLayout}
use Rattle.recovery.specs.declared.journals.OpenSlot.{OpenSlot}
use Rattle.recovery.specs.Open.{AreOpen, IsGoodSlot, IsJournalRefusal}
use Rattle.recovery.proofs.OpenRead.{next_open, slots_refused, stamps_more, all_good}
use Rattle.sfs_dev.proofs.ReadRuns.{read_more}
use Rattle.recovery.proofs.ReadRuns.{passed_on}
use Rattle.recovery.proofs.journals.read_open.Goals as goal

one_more_at_most : (found : List OpenSlot) (slot : Option OpenSlot) (after : List OpenSlot) (n : ℕ) → after ≡ found ++ option_to_list slot → length found ≤ n
    → length after ≤ n + 1
one_more_at_most found None after n is low = subst (λ (l : List OpenSlot). length l ≤ n + 1) (sym is) (let l = length-append found [] in omega (arith, l, low))
one_more_at_most found (Some one) after n is low =
    subst (λ (l : List OpenSlot). length l ≤ n + 1) (sym is) (let l = length-append found (one ∷ []) in omega (arith, l, low))

pub read_slot-requires-clause-layout : goal.read_slot-requires-clause-layout
read_slot-requires-clause-layout g c κs within = subst (λ n. IsLayout n c.args.layout.now) (sym c.loop-number.invariant.run.advances.size) c.requires.layout

pub loop-number-preserved : goal.loop-number-preserved
loop-number-preserved g c =
    let invariant = c.loop-number.invariant in
    let old = g.D.Disk.view c.args.disk.now in
    let mid = g.D.Disk.view c.loop-number.disk in
    let stamps = c.deref.ensures.value ∙ invariant.stamps in
    record {
      end = invariant.end;
      run = read_more old mid (g.D.Disk.view c.read_slot.new.disk) _ invariant.run c.in_ok-slot.ensures.reads;
      stamps = c.in_ok-add_slot.ensures.stamps ∙ stamps_more c.loop-number.stamps.items c.loop-number.found.items c.in_ok-slot.slot invariant.stamps
          ∙ ap (map (λ (one : OpenSlot). one.stamp)) (sym c.in_ok-add_slot.ensures.found);
      good =
          subst (λ (found : List OpenSlot). AllByRecursion (IsGoodSlot c.args.layout.now) found) (sym c.in_ok-add_slot.ensures.found)
          (all_good c.args.layout.now c.loop-number.found.items c.in_ok-slot.slot invariant.good c.in_ok-slot.ensures.good);
      few =
          one_more_at_most c.loop-number.found.items c.in_ok-slot.slot c.add_slot.new.found.items c.loop-number.number c.in_ok-add_slot.ensures.found
          invariant.few;
      found = λ image told.
          subst (λ (found : List OpenSlot). AreOpen c.args.layout.now image (c.loop-number.number + 1) found) (sym c.in_ok-add_slot.ensures.found)
          (next_open c.args.layout.now image c.deref.result.now c.loop-number.number c.loop-number.found.items c.in_ok-slot.slot
          (invariant.found image told) stamps
          (c.in_ok-slot.ensures.ok image (invariant.run.unwritten.content ∙ told)));
    }

pub returns-in_err-slot-clause-err : goal.returns-in_err-slot-clause-err
returns-in_err-slot-clause-err g c = λ image told.
    let invariant = c.loop-number.invariant in
    let less : c.loop-number.number < slot_count c.args.layout.now = subst (λ n. c.loop-number.number < n) invariant.end c.loop-number-test.true in
    passed_on c.from_residual.result c.in_err-slot.field-0.0 (IsJournalRefusal c.args.layout.now image) c.from_residual.ensures.1
    (slots_refused c.args.layout.now image c.deref.result.now c.loop-number.number c.loop-number.found.items c.in_err-slot.field-0.0
    (invariant.found image told)
    (c.deref.ensures.value ∙ invariant.stamps) less (c.in_err-slot.ensures.err image (invariant.run.unwritten.content ∙ told)))

pub returns-clause-few : goal.returns-clause-few
returns-clause-few g c = let few = c.loop-number.invariant.few in let most = c.loop-number.auto.number-end in let is = c.loop-number.invariant.end in
    omega (arith, few, most, is)

pub returns-clause-ok : goal.returns-clause-ok
returns-clause-ok g c = λ image told.
    let invariant = c.loop-number.invariant in
    let all : c.loop-number.number ≡ c.slot_count-number-end.result = let most = c.loop-number.auto.number-end in let least = c.loop-number-test.false in
    omega arith in
    subst (λ n. AreOpen c.args.layout.now image n c.loop-number.found.items) (all ∙ invariant.end) (invariant.found image told)
