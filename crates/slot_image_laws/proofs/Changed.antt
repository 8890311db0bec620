-- Of one slot's commit something else is known.
use Rattle.std.proofs.Common.{◌≡◌, ◌∙◌, ◌<◌, ◌≢◌, ℕ, List, Some, sym, ap, subst, inl, inr, option_map, Bool, cond, None, Option, refl, true, nat_eq, not}
use Rattle.std.proofs.Math.Path.{fun_ext}
use Rattle.sfs_base.proofs.BasicOptions.{some_same}
use Rattle.sfs_base.proofs.BasicTruth.{not_both, not_true, and_first, and_second}
use Rattle.sfs_base.proofs.BasicNumbers.{same_number}
use Rattle.sfs_image.specs.ImageOf.{InodePart}
use Rattle.sfs_image.specs.Super.{Layout}
use Rattle.sfs_image.specs.Part.{Part}
use Rattle.sfs_image.specs.Settled.{slot_count}
use Rattle.sfs_dev.specs.Disk.{View}
use Rattle.journal_one.specs.Job.{Piece, gate_piece}
use Rattle.journal_one.proofs.Kept.{Touches}
use Rattle.journal_one.proofs.Apart.{AreApart}
use Rattle.merge_laws.proofs.Blocks.{same_or_not}
use Rattle.slot_laws.specs.Slots.{Slots, SlotWork, SlotKnown, changed_slot, knowing, may_be_open, place_at, without_number}
use Rattle.slot_laws.specs.Rings.{RingsFit}
use Rattle.slot_laws.proofs.Basics.{at_same, at_other}
use Rattle.slot_image_laws.specs.Commits.{WorksFit, may_have, work_transaction, opened_in}
use Rattle.slot_image_laws.specs.Run.{Matches}
use Rattle.slot_image_laws.specs.Images.{KnowsWork, KnowsSlot}
use Rattle.slot_image_laws.proofs.Anew.{StillFits, changed_is, works_anew, only_at, only_here, only_off, matches_anew, gate_in, none_either}
use Rattle.slot_image_laws.proofs.Aside.{IsAside, shut_aside, knows_aside}

module _ (gives : ℕ → List InodePart) (layout : Layout) (base : ℕ → Part) (slots : Slots) (k : ℕ) (work : SlotWork) (there : slots k ≡ Some work)
    (change : SlotKnown → SlotKnown) where
  same_work : (j : ℕ) (other : SlotWork) → j ≡ k → slots j ≡ Some other → work ≡ other
  same_work j other same at = some_same (sym there ∙ ap slots (sym same) ∙ at)

  pub changed_works : WorksFit gives layout base slots → RingsFit (changed_slot slots k (knowing change)) → StillFits (knowing change work)
      → WorksFit gives layout base (changed_slot slots k (knowing change))
  changed_works works rings still =
      subst (WorksFit gives layout base) (sym (changed_is slots k change))
      (works_anew gives layout base slots (only_at k change) works (subst RingsFit (changed_is slots k change) rings) each_still)
    where
      each_still : (j : ℕ) (other : SlotWork) → slots j ≡ Some other → StillFits (knowing (only_at k change j) other)
      each_still j other at = elim (same_or_not j k) [
        | inl same ↦
            subst (λ (w : SlotWork). StillFits (knowing (only_at k change j) w)) (same_work j other same at)
            (subst (λ (f : SlotKnown → SlotKnown). StillFits (knowing f work)) (sym (only_here k change j same)) still)
        | inr away ↦
            let fits = works.each j other at in
            subst (λ (f : SlotKnown → SlotKnown). StillFits (knowing f other)) (sym (only_off k change j away))
            (record { known = fits.known; gate = fits.gate; landed = fits.landed })
      ]

  -- where its gate may be open as before, so may all
  module _ (same_gate : may_be_open (change work.known).gate_left ≡ may_be_open work.known.gate_left) where
    pub changed_matches : (flying : List ℕ) → Matches flying slots → Matches flying (changed_slot slots k (knowing change))
    changed_matches flying matches =
        subst (Matches flying) (sym (changed_is slots k change))
        (matches_anew gives layout base slots (only_at k change) flying matches
        (λ j other at aloft. elim (same_or_not j k) [
          | inl same ↦
              ap (λ (f : SlotKnown → SlotKnown). may_be_open (f other.known).gate_left) (only_here k change j same)
              ∙ subst (λ (w : SlotWork). may_be_open (change w.known).gate_left ≡ may_be_open w.known.gate_left) (same_work j other same at) same_gate
          | inr away ↦ ap (λ (f : SlotKnown → SlotKnown). may_be_open (f other.known).gate_left) (only_off k change j away)
        ]))

    pub changed_may : (j : ℕ) → may_have gives (changed_slot slots k (knowing change) j) ≡ may_have gives (slots j)
    changed_may j = elim (same_or_not j k) [
      | inl same ↦
          ap (may_have gives) (at_same slots k (option_map (knowing change) (slots k)) j same ∙ ap (option_map (knowing change)) there)
          ∙ ap (λ (b : Bool). cond b (Some (work_transaction gives work)) None) same_gate
          ∙ sym (ap (may_have gives) (ap slots same ∙ there))
      | inr away ↦ ap (may_have gives) (at_other slots k (option_map (knowing change) (slots k)) j away)
    ]

  -- what is known of each slot, where the others are aside of what was written
  module _ (piece : Piece) (old new : View) (touches : Touches piece old new) where
    pub changed_knows : WorksFit gives layout base slots → KnowsWork (knowing change work) new
        → ((j : ℕ) → j < slot_count layout → j ≢ k → AreApart piece (gate_piece (place_at layout j) 1))
        → ((j : ℕ) (other : SlotWork) → j ≢ k → slots j ≡ Some other → IsAside piece other)
        → ((j : ℕ) → j < slot_count layout → KnowsSlot layout j (slots j) old)
        → (j : ℕ) → j < slot_count layout → KnowsSlot layout j (changed_slot slots k (knowing change) j) new
    changed_knows works own gates aside knows j low = elim (same_or_not j k) [
      | inl same ↦
          subst (λ (o : Option SlotWork). KnowsSlot layout j o new)
          (sym (at_same slots k (option_map (knowing change) (slots k)) j same ∙ ap (option_map (knowing change)) there)) own
      | inr away ↦
          subst (λ (o : Option SlotWork). KnowsSlot layout j o new) (sym (at_other slots k (option_map (knowing change) (slots k)) j away))
          (by away (slots j) refl (knows j low))
    ]
      where
        by : j ≢ k → (o : Option SlotWork) → slots j ≡ o → KnowsSlot layout j o old → KnowsSlot layout j o new
        by away None at knew = shut_aside piece old new touches (place_at layout j) (gates j low away) knew
        by away (Some other) at knew = knows_aside piece old new touches other (works.each j other at).known (aside j other away at) knew

-- a slot is open as before whose gate was not changed, where it has a commit
pub opened_still_at : (gives : ℕ → List InodePart) (layout : Layout) (slots : Slots) (was image : List ℕ) (k : ℕ)
    → ((work : SlotWork) → slots k ≡ Some work → gate_in layout image k ≡ gate_in layout was k)
    → opened_in gives layout slots image k ≡ opened_in gives layout slots was k
opened_still_at gives layout slots was image k same = by (slots k) refl
  where
    by : (o : Option SlotWork) → slots k ≡ o
        → cond (gate_in layout image k) (may_have gives (slots k)) None ≡ cond (gate_in layout was k) (may_have gives (slots k)) None
    by None at =
        ap (λ (o : Option SlotWork). cond (gate_in layout image k) (may_have gives o) None) at
        ∙ none_either (gate_in layout image k)
        ∙ sym (none_either (gate_in layout was k))
        ∙ sym (ap (λ (o : Option SlotWork). cond (gate_in layout was k) (may_have gives o) None) at)
    by (Some work) at = ap (λ (b : Bool). cond b (may_have gives (slots k)) None) (same work at)

-- and so are all
pub opened_still : (gives : ℕ → List InodePart) (layout : Layout) (slots : Slots) (was image : List ℕ)
    → ((k : ℕ) (work : SlotWork) → slots k ≡ Some work → gate_in layout image k ≡ gate_in layout was k)
    → opened_in gives layout slots image ≡ opened_in gives layout slots was
opened_still gives layout slots was image same = fun_ext (λ k. opened_still_at gives layout slots was image k (same k))

-- marks with a number less
pub less_marked : (marks : ℕ → Bool) (n m : ℕ) → without_number marks n m ≡ true → (m ≢ n) × (marks m ≡ true)
less_marked marks n m marked = (
  λ same. not_both (ap (λ (j : ℕ). nat_eq j n) same ∙ same_number n) (not_true (nat_eq m n) (and_first (not (nat_eq m n)) (marks m) marked)),
  and_second (not (nat_eq m n)) (marks m) marked,
)
