-- Slots that were filled are sealed behind a sync, one by one.
use Rattle.std.specs.Prelude.{slice_get}
use Rattle.std.specs.Vec.{with_item}
use Rattle.std.proofs.lemmas.List.{length-set}
use Rattle.std.proofs.Common.{◌≡◌, ◌≢◌, ◌+◌, ◌<◌, ◌≤◌, ◌∙◌, ℕ, List, length, Some, inl, inr, refl, sym, ap, subst, arith, slice_set}
use Rattle.sfs_base.proofs.BasicOptions.{some_same}
use Rattle.merge_laws.proofs.Blocks.{same_or_not}
use Rattle.disk_box.specs.declared.desk.Desk.{Desk}
use Rattle.disk_box.specs.declared.desk.Slot.{Slot}
use Rattle.disk_box.specs.declared.kind.Kind.{Kind}
use Rattle.disk_box.specs.declared.kind.Kind.TheVariants as kind
use Rattle.disk_box.specs.Calls.{IsSealedBySync, TakesSync}
use Rattle.disk_box.specs.Kind.{HasKind, kind_of}
use Rattle.disk_box.proofs.SlotLists.{get_other, get_same}

-- the first slots have taken note, and the others are as they were
abbrev pub AreSealedBelow : ℕ → List Slot → List Slot → Type 0
AreSealedBelow n was now = (j : ℕ) (old new : Slot) → slice_get was j ≡ Some old → slice_get now j ≡ Some new
    → (j < n → IsSealedBySync old new) × (n ≤ j → new ≡ old)

-- none has yet
pub none_sealed : (slots : List Slot) → AreSealedBelow 0 slots slots
none_sealed slots j old new was now = ((λ low. absurd (omega (arith, low))), (λ high. some_same (sym now ∙ was)))

module _ (was now : List Slot) (k : ℕ) (sealed : AreSealedBelow k was now) where
  -- one of another phase is passed over
  pub sealed_over : (what : Kind) → HasKind now k what → what ≢ kind.Filled → AreSealedBelow (k + 1) was now
  sealed_over what has not j old new before after = (
    λ low. elim (same_or_not j k) [
      | inl same ↦
          let is = (sealed j old new before after).1 (omega (arith, same)) in
          let there = some_same (sym after ∙ (ap (slice_get now) same ∙ has.there)) in
          record { filled = λ e. absurd (not (sym has.kind_is ∙ (ap (λ (s : Slot). kind_of s.phase) (sym there ∙ is) ∙ e))); other = λ e. is }
      | inr apart ↦ (sealed j old new before after).0 (omega (arith, low, apart))
    ],
    λ high. (sealed j old new before after).1 (omega (arith, high)),
  )

  -- and one that was filled takes note
  pub sealed_one : (has : HasKind now k kind.Filled) (put : Slot) → TakesSync has.slot put → AreSealedBelow (k + 1) was (slice_set now k put)
  sealed_one has put takes j old new before after = elim (same_or_not j k) [
    | inl same ↦
        let there : slice_get now j ≡ Some has.slot = ap (slice_get now) same ∙ has.there in
        let is : has.slot ≡ old = (sealed j old has.slot before there).1 (omega (arith, same)) in
        let new_is = get_same now k put j new same after in (
          λ low. record {
            filled = λ e. subst (λ (z : Slot × Slot). TakesSync z.0 z.1) (λ i. (is i, sym new_is i)) takes;
            other = λ not. absurd (not (ap (λ (s : Slot). kind_of s.phase) (sym is) ∙ has.kind_is));
          },
          λ high. absurd (omega (arith, high, same)),
        )
    | inr apart ↦
        let one = sealed j old new before (sym (get_other now k put j apart) ∙ after) in
        ((λ low. one.0 (omega (arith, low, apart))), (λ high. one.1 (omega (arith, high))))
  ]

-- A desk whose first slots have taken note is the same in all else, with as many slots.
pub record IsSealedTo {D : Type 0} (n : ℕ) (start now : Desk D) : Type 0 where
  pub beside : now ≡ record start { slots = now.slots }
  pub count : length now.slots.items ≡ length start.slots.items
  pub below : AreSealedBelow n start.slots.items now.slots.items

pub sealed_start : {D : Type 0} (desk : Desk D) → IsSealedTo 0 desk desk
sealed_start desk = record { beside = refl; count = refl; below = none_sealed desk.slots.items }

module _ {D : Type 0} (start was now : Desk D) (k : ℕ) (sealed : IsSealedTo k start was) where
  pub passed_over : (what : Kind) → HasKind was.slots.items k what → what ≢ kind.Filled → now ≡ was → IsSealedTo (k + 1) start now
  passed_over what has not same = record {
    beside = same ∙ (sealed.beside ∙ (λ i. record start { slots = (sym same i).slots }));
    count = ap (λ (d : Desk D). length d.slots.items) same ∙ sealed.count;
    below = subst (λ (d : Desk D). AreSealedBelow (k + 1) start.slots.items d.slots.items) (sym same)
        (sealed_over start.slots.items was.slots.items k sealed.below what has not);
  }

  pub sealed_next : (has : HasKind was.slots.items k kind.Filled) (put : Slot) → TakesSync has.slot put
      → now ≡ record was { slots = with_item was.slots k put } → IsSealedTo (k + 1) start now
  sealed_next has put takes same = record {
    beside = same
        ∙ ((λ i. record (sealed.beside i) { slots = with_item was.slots k put }) ∙ (λ i. record start { slots = (sym same i).slots }));
    count = ap (λ (d : Desk D). length d.slots.items) same ∙ (length-set was.slots.items k put ∙ sealed.count);
    below = subst (λ (d : Desk D). AreSealedBelow (k + 1) start.slots.items d.slots.items) (sym same)
        (sealed_one start.slots.items was.slots.items k sealed.below has put takes);
  }
