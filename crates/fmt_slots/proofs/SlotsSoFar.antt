-- What a loop over the slots of a block has read.
use Rattle.std.proofs.Common.{◌≡◌, ℕ, ◌+◌, ◌<◌, length, List, [], ◌∷◌, ◌++◌, map, Option, Some, None, refl, sym, ap, ◌∙◌, subst, arith, add-one}
use Rattle.std.specs.List.{range_with_len}
use Rattle.std.specs.Option.{option_or}
use Rattle.std.proofs.lemmas.List.FromFn.{map-range_with_len_more, length-map-range_with_len}
use Rattle.sfs_image.proofs.PiecesLaws.{first_of-at}
use Rattle.sfs_image.specs.Bytes.{first_of, nonzero_in}
use Rattle.sfs_image.specs.Slot.{Row}
use Rattle.sfs_image.specs.SlotBlock.{slot_in, fault_in, slots_of, slots_fault}
use Rattle.fmt_slots.specs.declared.slot.SlotFault.{SlotFault}
use Rattle.fmt_slots.specs.declared.slot.SlotFault.TheVariants.{Bad, NoMemory}
use Rattle.fmt_slots.specs.Fault.{Names}

-- the first n slots of the block, none of them with a fault
pub record SlotsSoFar (block : List ℕ) (slots : List (Option Row)) (n : ℕ) : Type 0 where
  pub slots_are : slots ≡ map (slot_in block) (range_with_len 0 n)
  pub sound : first_of n (fault_in block) ≡ None

pub no_slots : (block : List ℕ) → SlotsSoFar block [] 0
no_slots block = record { slots_are = refl; sound = refl }

pub one_more : (block : List ℕ) (slots more : List (Option Row)) (n : ℕ) (slot : Option Row) → SlotsSoFar block slots n → fault_in block n ≡ None
    → slot ≡ slot_in block n → more ≡ slots ++ slot ∷ [] →
    SlotsSoFar block more (n + 1)
one_more block slots more n slot before none is grown =
    record {
      slots_are = grown ∙ ap (λ (s : Option Row). slots ++ s ∷ []) is ∙ ap (λ (xs : List (Option Row)). xs ++ slot_in block n ∷ []) before.slots_are
          ∙ sym (map-range_with_len_more (slot_in block) 0 n n (omega arith));
      sound = rw add-one (ap (λ (o : Option ℕ). option_or o (fault_in block n)) before.sound ∙ none);
    }

-- the fault of the next slot is the block's
pub next_fault : (block : List ℕ) (slots : List (Option Row)) (k : ℕ) (fault : SlotFault) → SlotsSoFar block slots k → k < 15 → Names fault (fault_in block k)
    → Names fault (slots_fault block)
unfolding slots_fault
next_fault block slots k (Bad at) before within names =
    ap (λ (o : Option ℕ). option_or o (nonzero_in 3960 136 block)) (first_of-at 15 k (fault_in block) at before.sound names within)
next_fault block slots k NoMemory before within names = tt

-- the block's fault once all slots are read
pub last_fault : (block : List ℕ) (slots : List (Option Row)) → SlotsSoFar block slots 15 → slots_fault block ≡ nonzero_in 3960 136 block
unfolding slots_fault
last_fault block slots all = ap (λ (o : Option ℕ). option_or o (nonzero_in 3960 136 block)) all.sound

pub all_slots : (block : List ℕ) (slots : List (Option Row)) → SlotsSoFar block slots 15 → slots ≡ slots_of block
unfolding slots_of
all_slots block slots all = all.slots_are

pub count_slots : (block : List ℕ) (slots : List (Option Row)) → SlotsSoFar block slots 15 → length slots ≡ 15
count_slots block slots all = ap length all.slots_are ∙ length-map-range_with_len (slot_in block) 0 15

-- the place that a refusal names
pub bad_place : (fault : SlotFault) (at : ℕ) (place : Option ℕ) → fault ≡ Bad at → Names fault place → place ≡ Some at
bad_place fault at place is names = subst (λ (f : SlotFault). Names f place) is names
