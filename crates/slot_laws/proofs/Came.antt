-- Commits that were in their slots before, and what stays of them.
use Rattle.std.specs.Prelude.{option_map}
use Rattle.std.proofs.Common.{◌≡◌, ◌∙◌, ℕ, Some, None, inl, inr, refl, sym, subst}
use Rattle.merge_laws.proofs.Blocks.{same_or_not}
use Rattle.slot_laws.specs.Slots.{SlotKnown, SlotWork, knowing, known_synced, Slots, with_at, changed_slot, synced_slots}
use Rattle.slot_laws.proofs.Basics.{at_same, at_other, none_there, mapped_some}

-- Of a commit the job and the number stay.
pub record KeepsNumbers (work new : SlotWork) : Type 0 where
  pub job : new.job ≡ work.job
  pub commit : new.commit ≡ work.commit

-- All that is told of it stays, but for what is known.
pub record KeepsTold (work new : SlotWork) : Type 0 where
  pub numbers : KeepsNumbers work new
  pub flush : new.flush ≡ work.flush
  pub settled : new.settled ≡ work.settled

pub knowing_told : (change : SlotKnown → SlotKnown) (work : SlotWork) → KeepsTold work (knowing change work)
knowing_told change work = record { numbers = record { job = refl; commit = refl }; flush = refl; settled = refl }

pub told_itself : (work : SlotWork) → KeepsTold work work
told_itself work = record { numbers = record { job = refl; commit = refl }; flush = refl; settled = refl }

-- A commit was in the same slot before, and this stays of it.
pub record Came (Stays : ℕ → SlotWork → SlotWork → Type 0) (slots : Slots) (k : ℕ) (new : SlotWork) : Type 0 where
  pub work : SlotWork
  pub there : slots k ≡ Some work
  pub stays : Stays k work new

module _ (Stays : ℕ → SlotWork → SlotWork → Type 0) (slots : Slots) where
  pub synced_came : ((j : ℕ) (work : SlotWork) → Stays j work (knowing known_synced work)) → (j : ℕ) (new : SlotWork)
      → synced_slots slots j ≡ Some new → Came Stays slots j new
  synced_came keeps j new there =
      let was = mapped_some (knowing known_synced) (slots j) new there in
      record { work = was.0; there = was.1; stays = subst (Stays j was.0) was.2 (keeps j was.0) }

  module _ (itself : (j : ℕ) (work : SlotWork) → Stays j work work) where
    pub same_came : (j : ℕ) (new : SlotWork) → slots j ≡ Some new → Came Stays slots j new
    same_came j new there = record { work = new; there = there; stays = itself j new }

    -- one slot's commit is another, of which this stays
    pub changed_came : (k : ℕ) (change : SlotWork → SlotWork) → ((work : SlotWork) → slots k ≡ Some work → Stays k work (change work))
        → (j : ℕ) (new : SlotWork) → changed_slot slots k change j ≡ Some new → Came Stays slots j new
    changed_came k change keeps j new there = elim (same_or_not j k) [
      | inl same ↦
          let was = mapped_some change (slots k) new (sym (at_same slots k (option_map change (slots k)) j same) ∙ there) in
          subst (λ (n : ℕ). Came Stays slots n new) (sym same)
          (record { work = was.0; there = was.1; stays = subst (Stays k was.0) was.2 (keeps was.0 was.1) })
      | inr apart ↦ same_came j new (sym (at_other slots k (option_map change (slots k)) j apart) ∙ there)
    ]

    -- a slot is idle again
    pub idled_came : (k j : ℕ) (new : SlotWork) → with_at slots k None j ≡ Some new → Came Stays slots j new
    idled_came k j new there = elim (same_or_not j k) [
      | inl same ↦ none_there (sym (at_same slots k None j same) ∙ there)
      | inr apart ↦ same_came j new (sym (at_other slots k None j apart) ∙ there)
    ]
