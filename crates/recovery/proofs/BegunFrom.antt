-- What a recovery begins with: an image in which nothing is wrong, as it was read.
use Rattle.std.proofs.Common.{◌≡◌, ℕ, zero, suc, ◌<◌, Bool, true, false, cond, List, [], ◌∷◌, length, map, get_or, Option, None, Some, refl, sym, ◌∙◌, ap, subst, arith, inl, inr}
use Rattle.std.specs.Prelude.{option_map, unwrap_or}
use Rattle.std.specs.List.{range_with_len, filter}
use Rattle.std.proofs.lemmas.Bool.{cases_Bool}
use Rattle.std.proofs.lemmas.List.{length-map, get_or-map, get_or_default}
use Rattle.std.proofs.lemmas.List.FromFn.{length-range_with_len, get_or-range_with_len}
use Rattle.sfs_base.proofs.BasicTruth.{not_both}
use Rattle.sfs_base.proofs.BasicNumbers.{zero_plus}
use Rattle.sfs_image.specs.Bytes.{part}
use Rattle.sfs_image.specs.ImageOf.{Transaction, given, with_opened, transaction_in, table_parts, IsImageOf}
use Rattle.sfs_image.specs.ImageWrites.{IsFullTable}
use Rattle.sfs_image.specs.Journal.{Entry, head_of}
use Rattle.sfs_image.specs.Part.{Part, part_of}
use Rattle.sfs_image.specs.Settled.{Stamped, image_block, body_in, open_bodies, journal_slot, slot_count, table_record}
use Rattle.sfs_image.specs.Super.{Layout}
use Rattle.sfs_image.proofs.BytesLaws.{None-option_map}
use Rattle.sfs_image.proofs.ImageOfLaws.{held_given, settled_is, parts_instead}
use Rattle.recovery.specs.Open.{AreOpen, IsOpenSlot, is_slot_open, open_slots_of}
use Rattle.recovery.specs.Recovering.{AreNewestOf, is_above, IsAt, IsFoundAt, AreOpenAbove, IsToBeClosed}
use Rattle.recovery.specs.Settling.{AreSettled, best_of}
use Rattle.recovery.specs.declared.journals.OpenSlot.{OpenSlot}
use Rattle.recovery.proofs.SettledRead.{found_has}
use Rattle.recovery.specs.declared.newest.Newest.{Newest}

-- the newest records that were read are those of the open slots and of the table
module _ (layout : Layout) (image : List ℕ) (stands : IsImageOf layout (transaction_in layout image) (table_parts layout image) image)
    (kept : Newest) (are : AreSettled layout.inodes (table_record layout image) (best_of (open_bodies layout image)) kept) where
  abbrev best : ℕ → Option (Stamped (List ℕ))
  best i = best_of (open_bodies layout image) i

  held_is : (i : ℕ) → option_map (λ (s : Stamped (List ℕ)). s.value) (best i) ≡ option_map (λ (p : Part). p.raw) (given layout (transaction_in layout image) i)
  held_is i = held_given layout (transaction_in layout image) image stands.slots i

  pub newest_were_read : AreNewestOf layout (transaction_in layout image) (table_parts layout image) kept.stamps.items kept.records.items
  newest_were_read = record {
    given_one = λ i low some none.
        let value : option_map (λ (s : Stamped (List ℕ)). s.value) (best i) ≡ None = held_is i ∙ ap (option_map (λ (p : Part). p.raw)) none in
        some (are.stamps i low ∙ ap (option_map (λ (s : Stamped (List ℕ)). s.stamp)) (None-option_map (λ (s : Stamped (List ℕ)). s.value) (best i) value));
    given_none = λ i low none.
        let no_best : best i ≡ None = None-option_map (λ (s : Stamped (List ℕ)). s.stamp) (best i) (sym (are.stamps i low) ∙ none) in
        None-option_map (λ (p : Part). p.raw) (given layout (transaction_in layout image) i)
        (sym (held_is i) ∙ ap (option_map (λ (s : Stamped (List ℕ)). s.value)) no_best);
    each = λ i low. are.records i low ∙ settled_is layout (transaction_in layout image) (table_parts layout image) image stands i low;
  }

-- settled parts settle as themselves
pub settled_again : (layout : Layout) (opened : ℕ → Option Transaction) (parts : ℕ → Part) (i : ℕ)
    → with_opened layout opened (with_opened layout opened parts) i ≡ with_opened layout opened parts i
settled_again layout opened parts i = again (given layout opened i)
  where
    again : (o : Option Part) → unwrap_or o (unwrap_or o (parts i)) ≡ unwrap_or o (parts i)
    again None = refl
    again (Some p) = refl

pub stands_settled : (layout : Layout) (opened : ℕ → Option Transaction) (parts : ℕ → Part) (image : List ℕ) → IsImageOf layout opened parts image
    → IsImageOf layout opened (with_opened layout opened parts) image
stands_settled layout opened parts image is =
    parts_instead layout opened parts (with_opened layout opened parts) image (λ i low none. ap (λ (o : Option Part). unwrap_or o (parts i)) none) is

-- the slot that was found at a place
some_at : (found : List OpenSlot) (k : ℕ) → k < length found → (one : OpenSlot) × IsAt found k one
some_at [] k low = absurd (omega arith)
some_at (first ∷ rest) k low =
    let one = get_or (first ∷ rest) k first in
    (one, record { within = low; is = get_or_default (first ∷ rest) k first one low })

-- the transaction of a slot's body, whatever its gate says
abbrev transaction_whole : Layout → List ℕ → ℕ → Transaction
transaction_whole layout image j =
    let body = body_in layout.inodes (journal_slot layout image j) in
    record { stamp = body.stamp; parts = map (λ (entry : Entry). record { inode = entry.inode; part = part_of (image_block image) entry.bytes }) body.entries }

-- what is in the list of the numbers that pass a test passes it, and each that passes is in it
pub passes_at : (test : ℕ → Bool) (numbers : List ℕ) (k : ℕ) → k < length (filter test numbers) → test (get_or (filter test numbers) k 0) ≡ true
passes_at test [] k low = absurd (omega arith)
passes_at test (n ∷ rest) k low = elim (cases_Bool (test n)) [
  | inl passes ↦
      subst (λ (l : List ℕ). k < length l → test (get_or l k 0) ≡ true) (sym (ap (λ b. cond b (n ∷ filter test rest) (filter test rest)) passes))
      (first passes (passes_at test rest) k) low
  | inr fails ↦
      subst (λ (l : List ℕ). k < length l → test (get_or l k 0) ≡ true) (sym (ap (λ b. cond b (n ∷ filter test rest) (filter test rest)) fails))
      (passes_at test rest k) low
]
  where
    first : test n ≡ true → ((k : ℕ) → k < length (filter test rest) → test (get_or (filter test rest) k 0) ≡ true) → (k : ℕ)
        → k < length (n ∷ filter test rest) → test (get_or (n ∷ filter test rest) k 0) ≡ true
    first passes others zero low = passes
    first passes others (suc k) low = others k (omega arith)

pub passing_is_there : (test : ℕ → Bool) (numbers : List ℕ) (m : ℕ) → m < length numbers → test (get_or numbers m 0) ≡ true
    → (k : ℕ) × (k < length (filter test numbers)) × (get_or (filter test numbers) k 0 ≡ get_or numbers m 0)
passing_is_there test [] m low passes = absurd (omega arith)
passing_is_there test (n ∷ rest) m low passes = elim (cases_Bool (test n)) [
  | inl here ↦
      subst (λ (l : List ℕ). (k : ℕ) × (k < length l) × (get_or l k 0 ≡ get_or (n ∷ rest) m 0))
      (sym (ap (λ b. cond b (n ∷ filter test rest) (filter test rest)) here)) (with_first (passing_is_there test rest) m low passes)
  | inr fails ↦
      subst (λ (l : List ℕ). (k : ℕ) × (k < length l) × (get_or l k 0 ≡ get_or (n ∷ rest) m 0))
      (sym (ap (λ b. cond b (n ∷ filter test rest) (filter test rest)) fails)) (without_first fails (passing_is_there test rest) m low passes)
]
  where
    with_first : ((m : ℕ) → m < length rest → test (get_or rest m 0) ≡ true
        → (k : ℕ) × (k < length (filter test rest)) × (get_or (filter test rest) k 0 ≡ get_or rest m 0))
        → (m : ℕ) → m < length (n ∷ rest) → test (get_or (n ∷ rest) m 0) ≡ true
        → (k : ℕ) × (k < length (n ∷ filter test rest)) × (get_or (n ∷ filter test rest) k 0 ≡ get_or (n ∷ rest) m 0)
    with_first others zero low passes = (0, omega arith, refl)
    with_first others (suc m) low passes = let there = others m (omega arith) passes in (suc there.0, (let h = there.1 in omega arith), there.2)

    without_first : test n ≡ false
        → ((m : ℕ) → m < length rest → test (get_or rest m 0) ≡ true
        → (k : ℕ) × (k < length (filter test rest)) × (get_or (filter test rest) k 0 ≡ get_or rest m 0))
        → (m : ℕ) → m < length (n ∷ rest) → test (get_or (n ∷ rest) m 0) ≡ true
        → (k : ℕ) × (k < length (filter test rest)) × (get_or (filter test rest) k 0 ≡ get_or (n ∷ rest) m 0)
    without_first fails others zero low passes = absurd (not_both passes fails)
    without_first fails others (suc m) low passes = others m (omega arith) passes

-- the slots that were found are those that are open in the image
module _ (layout : Layout) (image : List ℕ) (found : List OpenSlot) (are : AreOpen layout image (slot_count layout) found) where
  abbrev open_numbers : List ℕ
  open_numbers = open_slots_of layout image

  pub as_many : length found ≡ length open_numbers
  as_many = sym (length-map found (λ (one : OpenSlot). one.number)) ∙ ap length are.numbers

  number_is : (k : ℕ) (one : OpenSlot) → IsAt found k one → one.number ≡ get_or open_numbers k 0
  number_is k one at =
      ap (λ (o : OpenSlot). o.number) at.is ∙ sym (get_or-map (λ (o : OpenSlot). o.number) found k one 0 at.within)
      ∙ ap (λ (l : List ℕ). get_or l k 0) are.numbers

  gate_open : (k : ℕ) (one : OpenSlot) → IsAt found k one → is_slot_open layout image one.number ≡ true
  gate_open k one at = subst (λ (n : ℕ). is_slot_open layout image n ≡ true) (sym (number_is k one at))
      (passes_at (is_slot_open layout image) (range_with_len 0 (slot_count layout)) k (subst (λ (n : ℕ). k < n) as_many at.within))

  stamp_is : (k : ℕ) (one : OpenSlot) → IsAt found k one → one.stamp ≡ (head_of (part 0 4096 (journal_slot layout image one.number))).stamp
  stamp_is k one at = (found_has (IsOpenSlot layout image) found k one are.each at.within at.is).stamp

  found_open : (k : ℕ) (one : OpenSlot) → IsAt found k one → IsFoundAt (transaction_in layout image) one
  found_open k one at = record {
    transaction = whole one.number;
    is_open = ap (λ b. cond b (Some (whole one.number)) None) (gate_open k one at);
    stamp = sym (stamp_is k one at);
  }
    where
      whole : ℕ → Transaction
      whole j = transaction_whole layout image j

  pub all_are_open : AreOpenAbove layout found None (transaction_in layout image)
  all_are_open = record {
    still = λ k one at above. found_open k one at;
    others = λ j low. elim (cases_Bool (is_slot_open layout image j)) [
      | inr shut ↦ inl (ap (λ b. cond b (Some (transaction_whole layout image j)) None) shut)
      | inl is_open ↦ inr (there j low is_open)
    ];
  }
    where
      there : (j : ℕ) → j < slot_count layout → is_slot_open layout image j ≡ true
          → (k : ℕ) × (one : OpenSlot) × IsAt found k one × (one.number ≡ j) × (is_above None one.stamp ≡ true)
      there j low is_open =
          let numbered : get_or (range_with_len 0 (slot_count layout)) j 0 ≡ j = get_or-range_with_len 0 (slot_count layout) j 0 low ∙ zero_plus j in
          let at =
          passing_is_there (is_slot_open layout image) (range_with_len 0 (slot_count layout)) j
          (subst (λ n. j < n) (sym (length-range_with_len 0 (slot_count layout))) low)
          (subst (λ (n : ℕ). is_slot_open layout image n ≡ true) (sym numbered) is_open) in
          let within : at.0 < length found = subst (λ n. at.0 < n) (sym as_many) at.1 in
          let one = some_at found at.0 within in
          (at.0, one.0, one.1, number_is at.0 one.0 one.1 ∙ at.2 ∙ numbered, refl)

-- an image that stands for the parts of its table, and whose table has the records of all parts, is to be closed
pub begins_closing : (layout : Layout) (image now : List ℕ) (found : List OpenSlot) → AreOpen layout image (slot_count layout) found
    → IsImageOf layout (transaction_in layout image) (table_parts layout image) now
    → IsFullTable layout (transaction_in layout image) (table_parts layout image) now
    → IsToBeClosed layout (with_opened layout (transaction_in layout image) (table_parts layout image)) found None now
begins_closing layout image now found are stands full = record {
  settles = record {
    opened = transaction_in layout image;
    stands = stands_settled layout (transaction_in layout image) (table_parts layout image) now stands;
    same = settled_again layout (transaction_in layout image) (table_parts layout image);
  };
  full = λ i low. full i low ∙ ap (λ (p : Part). p.raw) (sym (settled_again layout (transaction_in layout image) (table_parts layout image) i));
  still_open = all_are_open layout image found are;
}
