use Rattle.std.proofs.Common.{rules, ◌≡◌, ◌≤◌, ◌<◌, true, false, get_or, length, sym, ap, subst, ◌∙◌, arith, nat_lt}
use Rattle.std.specs.List.Sorted.{IsPartitionPoint, IsPartitionedBy}
use Rattle.std.proofs.lemmas.List.{get_or_default}
use Rattle.std.proofs.lemmas.List.Sorted.{IsPartitionPoint-from_clause}
use borrow.Author.Tests.{ltb-true, ltb-false}
use Rattle.keyed_list.proofs.Places.{parted_by}
use Rattle.keyed_list.specs.Ascending.{item_with}
use Rattle.disk_change.specs.declared.placed.PlacedSlots.{PlacedSlots}
use Rattle.disk_change.specs.Patched.{SlotsPatch, slots_place}
use Rattle.disk_change.proofs.Passing.{none_between}
use Rattle.disk_change.proofs.rewritten.next_said.Goals as goal
use Rattle.disk_change.proofs.rewritten.next_said.Goals.{in-Some, in-None}

-- the blocks that change are parted by the place
parted : (c : goal.After-min-2) → IsPartitionPoint (λ (one : PlacedSlots). nat_lt one.place c.args.from ≡ true) (λ one. nat_lt one.place c.args.from ≡ false)
    c.patch.inside.changed.items c.partition_point-at.result
parted c =
    let lent = c.deref.ensures.value in
    subst
    (λ l. IsPartitionPoint (λ (one : PlacedSlots). nat_lt one.place c.args.from ≡ true) (λ one. nat_lt one.place c.args.from ≡ false) l
    c.partition_point-at.result)
    lent
    (IsPartitionPoint-from_clause (λ (one : PlacedSlots). nat_lt one.place c.args.from) c.deref.result.now c.partition_point-at.result
    c.partition_point-at.ensures.partitioned
    (subst (IsPartitionedBy (λ (one : PlacedSlots). nat_lt one.place c.args.from)) (sym lent)
    (parted_by slots_place c.patch.inside.changed.items c.patch.invariant c.args.from))
    (λ a r f h. search rules))

-- the first of them that is not below it is above it
next_above : (c : goal.After-min-2) (one : PlacedSlots) → c.partition_point-at.result < length c.deref-2.result.now
    → one ≡ get_or c.deref-2.result.now c.partition_point-at.result one → c.args.from ≤ one.place
next_above c one low is =
    let lent = c.deref-2.ensures.value in
    let own = ap (λ (p : PlacedSlots). p.place) (is ∙ ap (λ l. get_or l c.partition_point-at.result one) lent) in
    let above =
    ltb-false (get_or c.patch.inside.changed.items c.partition_point-at.result one).place c.args.from
    ((parted c).1 c.partition_point-at.result one (omega arith) (subst (λ l. c.partition_point-at.result < length l) lent low)) in
    omega (arith, own, above)

pub returns-clause-on : goal.returns-clause-on
returns-clause-on c = elim c.match-get.branch [
  | in-Some w ↦
      let above =
      next_above c w.in-Some.one.now (ltb-true c.partition_point-at.result (length c.deref-2.result.now) (sym w.in-Some.ensures.lookup.0))
      w.in-Some.ensures.lookup.1 in
      omega (arith, above, w.next-is, c.min-2.ensures, c.min.ensures, c.if-from-behind.false, c.requires)
  | in-None w ↦ omega (arith, w.next-is, c.min-2.ensures, c.min.ensures, c.if-from-behind.false, c.requires)
]

pub returns-clause-passed : goal.returns-clause-passed
returns-clause-passed c = λ n over under. record {
  there = omega (arith, under, c.min-2.ensures, c.min.ensures, c.min-behind.ensures);
  before = omega (arith, under, c.min-2.ensures, c.min.ensures, c.min-behind.ensures);
  stays =
      ap (λ (p : SlotsPatch). item_with slots_place n p.changed) (sym c.patch.view_is)
      ∙ none_between slots_place c.patch.inside.changed.items c.patch.invariant c.args.from c.partition_point-at.result n (parted c) over
      (λ d low. elim c.match-get.branch [
        | in-Some w ↦
            let lent = c.deref-2.ensures.value in
            let own =
            ap (λ (p : PlacedSlots). p.place)
            (w.in-Some.ensures.lookup.1 ∙ ap (λ l. get_or l c.partition_point-at.result w.in-Some.one.now) lent
            ∙ get_or_default c.patch.inside.changed.items c.partition_point-at.result w.in-Some.one.now d low) in
            omega (arith, own, w.next-is, under, c.min-2.ensures, c.min.ensures)
        | in-None w ↦
            let past = ltb-false c.partition_point-at.result (length c.deref-2.result.now) (sym w.in-None.ensures.lookup.0) in
            let long = ap length c.deref-2.ensures.value in
            absurd (omega (arith, past, long, low))
      ]);
}
