-- What was told of all slots, as each of them was served in turn.
use Rattle.std.proofs.Common.{◌≡◌, ◌+◌, ◌<◌, ◌≤◌, ◌∙◌, ℕ, Option, None, length, inl, inr, sym, ap, subst, arith}
use Rattle.sfs_image.specs.Settled.{slot_count}
use Rattle.sfs_dev.specs.Disk.{View}
use Rattle.cut_laws.proofs.Basics.{below_or}
use Rattle.merge_laws.proofs.Blocks.{same_or_not}
use Rattle.stamp_table.specs.Table.{TableState}
use Rattle.slot_laws.specs.Schedule.{due_in}
use Rattle.slot_laws.specs.Slots.{SlotWork}
use Rattle.disk_box.specs.declared.key.BoxKey.{BoxKey}
use Rattle.disk_box.specs.declared.desk.Desk.{Desk}
use Rattle.disk_box.specs.Pens.{PenHand, past_at}
use Rattle.disk_box.specs.Serving.{IsServed, IsServing, ServesOne, due_served}
use Rattle.disk_box.proofs.After.{past_fits_at}

-- of the first slots it was told what was served, and of the others nothing
abbrev pub AreServedBelow : {D : Type 0} → ℕ → PenHand D → PenHand D → Type 0
AreServedBelow n before after = (j : ℕ) → (j < n → IsServed ((past_at before).slots j) ((past_at after).slots j))
    × (n ≤ j → (past_at after).slots j ≡ (past_at before).slots j)

pub served_more : {D : Type 0} (before mid after : PenHand D) (k : ℕ) → AreServedBelow k before mid → ServesOne k mid after
    → AreServedBelow (k + 1) before after
served_more before mid after k first one j = elim (same_or_not j k) [
  | inl same ↦
      let still : (past_at mid).slots k ≡ (past_at before).slots k = (first k).1 (omega arith) in
      let here : IsServed ((past_at before).slots k) ((past_at after).slots k) =
      subst (λ w. IsServed w ((past_at after).slots k)) still one.here
      in (
        λ low. subst (λ n. IsServed ((past_at before).slots n) ((past_at after).slots n)) (sym same) here,
        λ high. absurd (omega (arith, same, high)),
      )
  | inr not ↦
      let other = one.others j not in (
        λ low. subst (IsServed ((past_at before).slots j)) (sym other) ((first j).0 (omega (arith, low, not))),
        λ high. other ∙ (first j).1 (omega (arith, high)),
      )
]

-- a slot without a commit stays so
served_idle : (before after : Option SlotWork) → before ≡ None → after ≡ before → IsServed before after
served_idle before after none same = record {
  due = ap due_in (same ∙ none) ∙ sym (ap due_served none);
  none = λ is. same ∙ is;
}

-- all slots of the disk were served, and others have no commit
pub all_served : {D : Type 0} (view : D → View) (t : TableState (BoxKey D)) (before after : PenHand D) (was : Desk D) (k n : ℕ) → IsServing view t before was k
    → length was.slots.items ≤ n → AreServedBelow n before after → (j : ℕ) → IsServed ((past_at before).slots j) ((past_at after).slots j)
all_served view t before after was k n serving many served j = elim (below_or j n) [
  | inl low ↦ (served j).0 low
  | inr high ↦
      let beyond : slot_count before.table.given.layout ≤ j = subst (λ m. m ≤ j) serving.at.fits.frame.count (omega (arith, many, high)) in
      served_idle ((past_at before).slots j) ((past_at after).slots j) ((past_fits_at t before serving.at.holds).numbers.beyond j beyond) ((served j).1 high)
]
