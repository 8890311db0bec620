-- What is known of a range goes on through writes elsewhere, and through a sync.
use Rattle.std.proofs.Common.{◌≡◌, ℕ, List, Option, Some, None, refl, sym, ◌∙◌, subst}
use Rattle.sfs_dev.specs.Ranges.{part, SameOutside, Apart}
use Rattle.sfs_dev.specs.RangeLaws.{part_apart}
use Rattle.sfs_dev.specs.Disk.{TornTold, OnlyTold}
use Rattle.sfs_dev.specs.Holds.{Holds, StaysOutside}

-- what a read gave before a write that may have failed
pub told_before : (from m : ℕ) (told new_told : Option (List ℕ)) (content : List ℕ) → TornTold from m told new_told → new_told ≡ Some content
    → (was : List ℕ) × (told ≡ Some was) × SameOutside from m was content
told_before from m (Some was) new_told content torn is =
    let same : torn.0 ≡ content = cc in
    (was, refl, subst (λ (l : List ℕ). SameOutside from m was l) same torn.2)
told_before from m None new_told content torn is = let never : None ≡ Some content = sym torn ∙ is in cc

-- a range apart from the one that was written keeps what is known of it
pub held : (at n from m : ℕ) (told new_told : Option (List ℕ)) (old new P Q : List ℕ → Type 0) → Apart from m at n → StaysOutside from m told new_told old new
    → Holds at n told old P Q → Holds at n new_told new P Q
held at n from m told new_told old new P Q apart stays holds = record {
  left = λ image now.
      let was = stays.left image now in
      subst P (sym (part_apart at n from m was.0 image apart was.2)) (holds.left was.0 was.1);
  read = λ content is.
      let was = told_before from m told new_told content stays.read is in
      subst Q (sym (part_apart at n from m was.0 content apart was.2)) (holds.read was.0 was.1);
}

-- after a sync that answered Ok, every image has what a read gives
pub held_by_sync : (at n : ℕ) (content : List ℕ) (told new_told : Option (List ℕ)) (old new P Q : List ℕ → Type 0) → told ≡ Some content → new_told ≡ told
    → OnlyTold new_told new → Holds at n told old P Q → Holds at n new_told new Q Q
held_by_sync at n content told new_told old new P Q is same only holds =
    let now : new_told ≡ Some content = same ∙ is in
    record {
      left = λ image left. let sole = subst (λ (t : Option (List ℕ)). OnlyTold t new) now only in
          subst (λ (l : List ℕ). Q (part at n l)) (sym (sole image left)) (holds.read content is);
      read = λ bytes told_is. holds.read bytes (sym same ∙ told_is);
    }
