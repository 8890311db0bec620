-- The slots of a desk, in a list, as one of them is put.
use Rattle.std.proofs.Common.{◌≡◌, ◌≢◌, ◌<◌, ◌∙◌, ℕ, List, length, Option, Some, inl, inr, refl, sym, ap, subst, arith, slice_set}
use Rattle.std.specs.Prelude.{slice_get}
use Rattle.std.proofs.lemmas.Bool.{cases_lt}
use Rattle.std.proofs.lemmas.List.{get_or-set_other, length-set}
use Rattle.std.proofs.lemmas.Grind.{get_or-set_at}
use Rattle.std.proofs.lemmas.Option.{slice_get-get_or, slice_get_past, slice_get_within}
use Rattle.sfs_base.proofs.BasicOptions.{some_same}
use Rattle.sfs_image.specs.Super.{Layout}
use Rattle.merge_laws.proofs.Blocks.{same_or_not}
use Rattle.slot_laws.specs.Slots.{SlotWork, Slots, place_at, with_at}
use Rattle.slot_laws.proofs.Basics.{at_same, at_other}
use Rattle.disk_box.specs.declared.desk.Slot.{Slot}
use Rattle.disk_box.specs.Slots.{SlotFits, SlotsFit}

module _ {X : Type 0} (xs : List X) (k : ℕ) (x : X) where
  -- what stands elsewhere
  pub get_other : (j : ℕ) → j ≢ k → slice_get (slice_set xs k x) j ≡ slice_get xs j
  get_other j not = elim (cases_lt j (length xs)) [
    | inl inside ↦
        slice_get-get_or (slice_set xs k x) j x (omega (arith, length-set xs k x, inside))
        ∙ (ap Some (get_or-set_other xs k j x x not) ∙ sym (slice_get-get_or xs j x inside))
    | inr outside ↦
        slice_get_past (slice_set xs k x) j (omega (arith, length-set xs k x, outside)) ∙ sym (slice_get_past xs j outside)
  ]

  -- and what was put
  pub get_same : (j : ℕ) (y : X) → j ≡ k → slice_get (slice_set xs k x) j ≡ Some y → y ≡ x
  get_same j y same there =
      let low = slice_get_within (slice_set xs k x) j y there in
      let within : j < length (slice_set xs k x) = low in
      some_same (sym there ∙ (slice_get-get_or (slice_set xs k x) j x within
      ∙ ap Some (get_or-set_at xs k j x x same (omega (arith, length-set xs k x, low, same)))))

  pub get_put : (y : X) → slice_get xs k ≡ Some y → slice_get (slice_set xs k x) k ≡ Some x
  get_put y there =
      let low = slice_get_within xs k y there in
      let within : k < length xs = low in
      slice_get-get_or (slice_set xs k x) k x (omega (arith, length-set xs k x, within)) ∙ ap Some (get_or-set_at xs k k x x refl within)

-- a slot that is put fits, where it fits what is told of it
pub slots_put : (layout : Layout) (told : Slots) (slots : List Slot) (k : ℕ) (work : Option SlotWork) (slot : Slot) → SlotsFit layout told slots
    → SlotFits (place_at layout k) work slot → SlotsFit layout (with_at told k work) (slice_set slots k slot)
slots_put layout told slots k work slot fits put = record {
  each = λ j one there. elim (same_or_not j k) [
    | inl same ↦
        let is = get_same slots k slot j one same there in
        subst (λ (z : ℕ × (Option SlotWork × Slot)). SlotFits (place_at layout z.0) z.1.0 z.1.1)
        (λ i. (sym same i, (sym (at_same told k work j same) i, sym is i))) put
    | inr not ↦
        subst (λ w. SlotFits (place_at layout j) w one) (sym (at_other told k work j not))
        (fits.each j one (sym (get_other slots k slot j not) ∙ there))
  ];
}
