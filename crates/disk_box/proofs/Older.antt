-- Durable commits that linger, and the oldest of an inode among them.
use Rattle.std.specs.Prelude.{IfNone, IfSome, slice_get}
use Rattle.std.specs.List.{find, list_any}
use Rattle.std.specs.List.Sorted.{IsNonDecreasingBy, IsPartitionPoint, IsStrictlyIncreasing}
use Rattle.std.specs.Ordering.{nat_cmp, ordering_index}
use Rattle.std.specs.declared.cmp.Ordering.TheVariants.{Less, Greater}
use Rattle.std.proofs.Common.{◌≡◌, ◌<◌, ◌≤◌, ◌+◌, ◌||◌, ◌∷◌, ◌∙◌, ℕ, Bool, true, false, cond, not, List, [], length, Option, Some, None, get_or, inl, inr, refl, sym, ap, subst, arith, nat_eq}
use Rattle.std.proofs.lemmas.List.Kept.{AllPairs-from_increasing}
use Rattle.std.proofs.lemmas.List.{length-map}
use Rattle.std.proofs.lemmas.Option.{get_or_from_slice_get, slice_get-get_or, slice_get_within}
use Rattle.sfs_base.specs.Listed.{is_listed}
use Rattle.sfs_base.proofs.BasicOptions.{some_not_none, some_same}
use Rattle.sfs_base.proofs.BasicTruth.{true_not_false}
use Rattle.journal_one.specs.Job.{Job, Place}
use Rattle.journal_one.specs.Packed.{inode_of_entry}
use Rattle.journal_one.specs.Stage.{Stage}
use Rattle.keyed_list.proofs.Searched.{search_misses}
use Rattle.merge_laws.proofs.Blocks.{same_or_not}
use Rattle.slot_laws.specs.Slots.{SlotWork, place_at}
use Rattle.disk_box.specs.declared.desk.Phase.{Phase}
use Rattle.disk_box.specs.declared.desk.Phase.TheVariants as phase
use Rattle.disk_box.specs.declared.desk.Slot.{Slot}
use Rattle.disk_box.specs.declared.kind.Kind.TheVariants as kind
use Rattle.disk_box.specs.Calls.{HasMore, written_of}
use Rattle.disk_box.specs.Kind.{HasKind, kind_of}
use Rattle.disk_box.specs.Oldest.{AreTold, FoundLeast, IsOldestSlot, LingeringAscend, goes_before, is_next_oldest, next_inode}
use Rattle.disk_box.specs.Slots.{Notes, PhaseFits}
use Rattle.disk_box.specs.Steps.{Lingers, is_lingering}
use Rattle.disk_box.proofs.Phases.{durable_is}

-- a number that a search by halves missed is not in the list
pub is_missed : (numbers : List ℕ) → IsStrictlyIncreasing numbers → (number at : ℕ) → at ≤ length numbers
    → (IsNonDecreasingBy (λ y. ordering_index (nat_cmp y number)) numbers
    → IsPartitionPoint (λ y. nat_cmp y number ≡ Less) (λ y. nat_cmp y number ≡ Greater) numbers at) → false ≡ is_listed numbers number
is_missed numbers up number at within parted =
    by_list numbers (sym (search_misses (λ n. n) numbers (AllPairs-from_increasing numbers up) number at within parted))
  where
    by_test : (b : Bool) (x : ℕ) (found : Option ℕ) (rest : Bool) → cond b (Some x) found ≡ None → (found ≡ None → false ≡ rest) → false ≡ (b || rest)
    by_test true x found rest e next = absurd (some_not_none e)
    by_test false x found rest e next = next e

    by_list : (xs : List ℕ) → find (λ y. nat_eq y number) xs ≡ None → false ≡ list_any (λ y. nat_eq y number) xs
    by_list [] e = refl
    by_list (x ∷ xs) e = by_test (nat_eq x number) x (find (λ y. nat_eq y number) xs) (list_any (λ y. nat_eq y number) xs) e (by_list xs)

module _ (slots : List Slot) where
  -- a slot lingers as it was read
  pub lingers_read : (k : ℕ) (slot : Slot) → k < length slots → slot ≡ get_or slots k slot → is_lingering (kind_of slot.phase) ≡ true → Lingers slots k
  lingers_read k slot low read lingers = record {
    what = kind_of slot.phase;
    has = record { slot = slot; there = slice_get-get_or slots k slot low ∙ ap Some (sym read); kind_is = refl };
    lingers = lingers;
  }

  pub slot_of : (k : ℕ) (lingers : Lingers slots k) (slot : Slot) → slot ≡ get_or slots k slot → lingers.has.slot ≡ slot
  slot_of k lingers slot read = sym (read ∙ get_or_from_slice_get slots k lingers.has.slot slot lingers.has.there)

  pub lingers_not : (k : ℕ) (slot : Slot) → slot ≡ get_or slots k slot → is_lingering (kind_of slot.phase) ≡ false → Lingers slots k → ⊥
  lingers_not k slot read not lingers =
      true_not_false
      (sym lingers.lingers ∙ (ap is_lingering (sym lingers.has.kind_is)
      ∙ (ap (λ (s : Slot). is_lingering (kind_of s.phase)) (slot_of k lingers slot read) ∙ not)))

  same_drawn : (k : ℕ) (one other : Lingers slots k) → one.has.slot.drawn ≡ other.has.slot.drawn
  same_drawn k one other = ap (λ (s : Slot). s.drawn) (some_same (sym one.has.there ∙ other.has.there))

  -- the least of the first slots, with one more
  pub least_skips : (k : ℕ) (found : Option ℕ) → FoundLeast slots k found → (Lingers slots k → ⊥) → FoundLeast slots (k + 1) found
  least_skips k None none not = λ j low lingers. elim (same_or_not j k) [
    | inl same ↦ not (subst (Lingers slots) same lingers)
    | inr apart ↦ none j (omega (arith, low, apart)) lingers
  ]
  least_skips k (Some one) least not = record {
    within = (let low = least.within in omega (arith, low));
    lingers = least.lingers;
    least = λ j low other. elim (same_or_not j k) [
      | inl same ↦ absurd (not (subst (Lingers slots) same other))
      | inr apart ↦ least.least j (omega (arith, low, apart)) other
    ];
  }

  pub least_first : (k : ℕ) → FoundLeast slots k None → Lingers slots k → FoundLeast slots (k + 1) (Some k)
  least_first k none lingers = record {
    within = omega arith;
    lingers = lingers;
    least = λ j low other. elim (same_or_not j k) [
      | inl same ↦ least_same j same other
      | inr apart ↦ absurd (none j (omega (arith, low, apart)) other)
    ];
  } where
    least_same : (j : ℕ) → j ≡ k → (other : Lingers slots j) → lingers.has.slot.drawn ≤ other.has.slot.drawn
    least_same j same other = (let is = ap (λ (s : Slot). s.drawn)
        (some_same (sym lingers.has.there ∙ (ap (slice_get slots) (sym same) ∙ other.has.there))) in omega (arith, is))

  drawn_of : (k : ℕ) (lingers : Lingers slots k) (slot : Slot) → (get_or slots k slot).drawn ≡ lingers.has.slot.drawn
  drawn_of k lingers slot = ap (λ (s : Slot). s.drawn) (get_or_from_slice_get slots k lingers.has.slot slot lingers.has.there)

  pub least_stays : (k one : ℕ) → FoundLeast slots k (Some one) → (lingers : Lingers slots k) (least slot : Slot)
      → (get_or slots one least).drawn ≤ (get_or slots k slot).drawn → FoundLeast slots (k + 1) (Some one)
  least_stays k one found lingers least slot less = record {
    within = (let low = found.within in omega (arith, low));
    lingers = found.lingers;
    least = λ j low other. elim (same_or_not j k) [
      | inl same ↦
          let first = drawn_of one found.lingers least in
          let second = ap (λ n. (get_or slots n slot).drawn) (sym same) ∙ drawn_of j other slot in
          omega (arith, less, first, second)
      | inr apart ↦ found.least j (omega (arith, low, apart)) other
    ];
  }

  pub least_moves : (k one : ℕ) → FoundLeast slots k (Some one) → (lingers : Lingers slots k) (least slot : Slot)
      → (get_or slots k slot).drawn < (get_or slots one least).drawn → FoundLeast slots (k + 1) (Some k)
  least_moves k one found lingers least slot less = record {
    within = omega arith;
    lingers = lingers;
    least = λ j low other.
        let here = drawn_of k lingers slot in
        elim (same_or_not j k) [
          | inl same ↦
              let there = ap (λ n. (get_or slots n slot).drawn) (sym same) ∙ drawn_of j other slot in
              omega (arith, here, there)
          | inr apart ↦
              let first = drawn_of one found.lingers least in
              let below = found.least j (omega (arith, low, apart)) other in
              omega (arith, less, here, first, below)
        ];
  }

  -- that of all
  oldest_found : (k : ℕ) → FoundLeast slots (length slots) (Some k) → IsOldestSlot slots k
  oldest_found k found = record {
    lingers = found.lingers;
    least = λ j other. found.least j (slice_get_within slots j other.has.slot other.has.there) other;
  }

  none_lingers : FoundLeast slots (length slots) None → (k : ℕ) → Lingers slots k → ⊥
  none_lingers none k lingers = none k (slice_get_within slots k lingers.has.slot lingers.has.there) lingers

  pub some_found : (found : Option ℕ) → FoundLeast slots (length slots) found → IfSome found (λ k. IsOldestSlot slots k)
  some_found None is = tt
  some_found (Some k) is = oldest_found k is

  pub none_found : (found : Option ℕ) → FoundLeast slots (length slots) found → IfNone found ((k : ℕ) → Lingers slots k → ⊥)
  none_found None is = none_lingers is
  none_found (Some k) is = tt

-- a durable commit lingers
pub durable_lingers : (p : Phase) (place : Place) (work : SlotWork) → PhaseFits p place (Some work) → work.settled ≡ true → is_lingering (kind_of p) ≡ true
durable_lingers (phase.Idle x) place work fits settled = absurd fits
durable_lingers (phase.Filling x) place work fits settled = absurd (true_not_false (sym settled ∙ fits.being.shut.aloft))
durable_lingers (phase.Filled x) place work fits settled = absurd (true_not_false (sym settled ∙ fits.being.shut.aloft))
durable_lingers (phase.Sealed x) place work fits settled = absurd (true_not_false (sym settled ∙ fits.filled.shut.aloft))
durable_lingers (phase.Opened x) place work fits settled = absurd (true_not_false (sym settled ∙ fits.aloft))
durable_lingers (phase.Durable x) place work fits settled = refl
durable_lingers (phase.Placed x) place work fits settled = refl
durable_lingers (phase.Copied x) place work fits settled = refl
durable_lingers (phase.Closing x) place work fits settled = refl
durable_lingers phase.Lost place work fits settled = absurd fits

-- the inodes of a lingering slot ascend
lingering_told : (p : Phase) (place : Place) (told : Option SlotWork) (slot : Slot) → PhaseFits p place told → Notes slot told → is_lingering (kind_of p) ≡ true
    → IsStrictlyIncreasing slot.inodes.items
lingering_told p place (Some work) slot fits notes lingers = notes.ascend
lingering_told (phase.Idle x) place None slot fits notes lingers = absurd (cc lingers)
lingering_told (phase.Filling x) place None slot fits notes lingers = absurd fits
lingering_told (phase.Filled x) place None slot fits notes lingers = absurd fits
lingering_told (phase.Sealed x) place None slot fits notes lingers = absurd fits
lingering_told (phase.Opened x) place None slot fits notes lingers = absurd fits
lingering_told (phase.Durable x) place None slot fits notes lingers = absurd fits
lingering_told (phase.Placed x) place None slot fits notes lingers = absurd fits
lingering_told (phase.Copied x) place None slot fits notes lingers = absurd fits
lingering_told (phase.Closing x) place None slot fits notes lingers = absurd fits
lingering_told phase.Lost place None slot fits notes lingers = absurd fits

pub all_ascend : (slots : List Slot) → AreTold slots → (j : ℕ) (slot : Slot) → slice_get slots j ≡ Some slot → LingeringAscend slot
all_ascend slots are j slot there lingers =
    let fits = are.fits.each j slot there in
    lingering_told slot.phase (place_at are.layout j) (are.told j) slot fits.fits fits.notes lingers

-- a durable commit of which a record is to be placed has its inode
durable_within : (durable : Stage) (place : Place) (told : Option SlotWork) (slot : Slot) → PhaseFits (phase.Durable durable) place told → Notes slot told
    → durable.done < length durable.job.entries → durable.done < length slot.inodes.items
durable_within durable place None slot fits notes low = absurd fits
durable_within durable place (Some work) slot fits notes low =
    let same = ap (λ (j : Job). length j.entries) fits.job_is in
    let long = ap length notes.inodes_are ∙ length-map work.job.entries inode_of_entry in
    omega (arith, low, same, long)

module _ (slots : List Slot) (are : AreTold slots) (k : ℕ) (slot : Slot) (has : HasKind slots k kind.Durable) (read : slot ≡ get_or slots k slot) where
  same_slot : slot ≡ has.slot
  same_slot = read ∙ get_or_from_slice_get slots k has.slot slot has.there

  pub next_within : (written : ℕ) → written ≡ written_of slot.phase → HasMore slot.phase → written < length slot.inodes.items
  next_within written is more =
      let state = durable_is slot.phase (ap (λ (s : Slot). kind_of s.phase) same_slot ∙ has.kind_is) in
      let fits = are.fits.each k slot (has.there ∙ ap Some (sym same_slot)) in
      let low = durable_within state.0 (place_at are.layout k) (are.told k) slot
      (subst (λ (p : Phase). PhaseFits p (place_at are.layout k) (are.told k)) state.1 fits.fits) fits.notes (subst HasMore state.1 more)
      in
      let same = is ∙ ap written_of state.1 in
      omega (arith, low, same)

  -- the answer is that of the slot
  pub next_answer : (drawn inode written : ℕ) (any : Bool) → drawn ≡ slot.drawn → written ≡ written_of slot.phase
      → slice_get slot.inodes.items written ≡ Some inode → any ≡ list_any (goes_before drawn inode) slots → (one : Slot) → slice_get slots k ≡ Some one
      → not any ≡ is_next_oldest slots one
  next_answer drawn inode written any drawn_is is found any_is one there =
      let same : slot ≡ one = same_slot ∙ some_same (sym has.there ∙ there) in
      let next : inode ≡ next_inode slot = sym (ap (λ n. get_or slot.inodes.items n 0) (sym is)
      ∙ get_or_from_slice_get slot.inodes.items written inode 0 found)
      in
      ap not (any_is ∙ (λ i. list_any (goes_before (drawn_is i) (next i)) slots))
      ∙ ap (λ (s : Slot). is_next_oldest slots s) same
