-- The entries of a journal slot are read again where they stand.
use Rattle.std.proofs.Common.{◌≡◌, ℕ, zero, suc, ◌+◌, ◌-◌, ◌*◌, ◌^◌, ◌<◌, ◌≤◌, min, Bool, true, not, eqb, ltb, List, Some, inl, inr, refl, [], map, take, drop, length, get_or, slice_index, None, sym, ap, ◌∙◌, subst, arith, inl, inr}
use Rattle.std.specs.Prelude.{slice_get}
use Rattle.std.specs.List.{range_with_len, flat_map}
use Rattle.std.specs.List.Sorted.{IsStrictlyIncreasing}
use Rattle.std.proofs.lemmas.Bool.{cases_Bool, cases_lt, eqb-false, lt-ltb, or_left, or_right, and_from, not_from_true}
use Rattle.std.proofs.lemmas.List.{append-nil, same_lists, get_or-take, get_or-map, length-map}
use Rattle.std.proofs.lemmas.List.Elements.{All-get_or}
use Rattle.std.proofs.lemmas.List.FromFn.{fill_by_all}
use Rattle.std.proofs.Math.Nat.{mul-le-mul_right}
use Rattle.std.proofs.lemmas.Option.{slice_get-get_or, get_or_from_slice_get, slice_get_past}
use Rattle.sfs_image.specs.Bytes.{part, number_from, u32s_at, u32_bytes, fault_at}
use Rattle.sfs_image.specs.Journal.{Entry, head_of, numbers_of, entries_of, is_next, numbers_fault, number_byte, record_byte, AreEntries, HasEntries, HasRangesOf}
use Rattle.sfs_image.specs.Laws.{AreReadAgain}
use Rattle.sfs_image.proofs.BytesLaws.{number_from-u32_bytes}
use Rattle.sfs_image.proofs.FrameLaws.{part-part}
use Rattle.sfs_image.proofs.PiecesLaws.{part-flat_map, first_of-from, length-u32s_at, get_or-u32s_at}

-- the number of 4 bytes does not see what lies behind them
number_of_four : (bytes : List ℕ) → number_from 0 4 bytes ≡ number_from 0 4 (take 4 bytes)
number_of_four bytes =
    let a : slice_index bytes 0 ≡ slice_index (take 4 bytes) 0 = sym (get_or-take 4 bytes 0 0 (omega arith)) in
    let b : slice_index bytes 1 ≡ slice_index (take 4 bytes) 1 = sym (get_or-take 4 bytes 1 0 (omega arith)) in
    let c : slice_index bytes 2 ≡ slice_index (take 4 bytes) 2 = sym (get_or-take 4 bytes 2 0 (omega arith)) in
    let d : slice_index bytes 3 ≡ slice_index (take 4 bytes) 3 = sym (get_or-take 4 bytes 3 0 (omega arith)) in
    omega arith

-- in numbers that ascend strictly each is at least its place
pub place_below : (xs : List ℕ) (k : ℕ) → IsStrictlyIncreasing xs → k < length xs → k ≤ slice_index xs k
place_below xs zero ascend h = omega arith
place_below xs (suc k) ascend h =
    let before = place_below xs k ascend (omega arith) in
    let next : slice_index xs k < slice_index xs (suc k) =
    subst (λ (j : ℕ). slice_index xs k < slice_index xs j) (let e : k + 1 ≡ suc k = omega arith in e) (ascend k (omega arith)) in
    omega arith

-- so there are no more of them than of the numbers below what is above each
pub few_below : (n bound : ℕ) (at : ℕ → ℕ) → ((k : ℕ) → k < n → k ≤ at k) → ((k : ℕ) → k < n → at k < bound) → n ≤ bound
few_below zero bound at low high = omega arith
few_below (suc n) bound at low high = let a = low n (omega arith) in let b = high n (omega arith) in omega arith

module _ (inodes : ℕ) (entries : List Entry) (slot : List ℕ) (small : inodes ≤ 2 ^ 32) (are : AreEntries inodes entries)
    (has : HasEntries inodes entries slot) where
  nothing : Entry
  nothing = record { inode = 0; bytes = [] }

  inodes_of_entries : List ℕ
  inodes_of_entries = map (λ (entry : Entry). entry.inode) entries

  inode_at : (k d : ℕ) → k < length entries → get_or inodes_of_entries k d ≡ (get_or entries k nothing).inode
  unfolding inodes_of_entries
  inode_at k d h = get_or-map (λ (entry : Entry). entry.inode) entries k nothing d h

  as_many : length inodes_of_entries ≡ length entries
  unfolding inodes_of_entries
  as_many = length-map entries (λ (entry : Entry). entry.inode)

  ascending : IsStrictlyIncreasing inodes_of_entries
  unfolding inodes_of_entries
  ascending = are.ascend

  inode_below : (k : ℕ) → k < length entries → slice_index inodes_of_entries k < inodes
  inode_below k h = subst (λ (i : ℕ). i < inodes) (sym (inode_at k 0 h)) (All-get_or (λ (entry : Entry). entry.inode < inodes) entries k nothing h are.below)

  -- there are no more entries than inodes
  few : length entries ≤ inodes
  few =
      few_below (length entries) inodes (slice_index inodes_of_entries) (λ k h. place_below inodes_of_entries k ascending (omega (arith, as_many))) inode_below

  count_is_few : (head_of (part 0 4096 slot)).count ≤ inodes
  count_is_few = let e = has.count in let h = few in omega arith

  -- the numbers of the slot are those of the entries
  numbers_again : numbers_of inodes slot ≡ inodes_of_entries
  numbers_again =
      let n = length entries in
      let size : min (head_of (part 0 4096 slot)).count inodes ≡ n = (let e = has.count in let h = few in omega arith) in
      ap (λ (c : ℕ). u32s_at 4096 c slot) size
      ∙ same_lists (u32s_at 4096 n slot) inodes_of_entries (length-u32s_at 4096 n slot ∙ sym as_many)
      (λ k d h.
      let within : k < n = subst (λ (l : ℕ). k < l) (length-u32s_at 4096 n slot) h in
      get_or-u32s_at 4096 n slot k d within
      ∙ number_of_four (drop (4 * k) (part 4096 (4 * n) slot))
      ∙ ap (number_from 0 4)
      (part-part (4 * k) 4 4096 (4 * n) slot (omega arith) ∙ has.numbers k (get_or entries k nothing) (slice_get-get_or entries k nothing within))
      ∙ number_from-u32_bytes (get_or entries k nothing).inode [] (let low = inode_below k within in let e = inode_at k 0 within in omega arith)
      ∙ sym (inode_at k d within))

  -- the entries of the slot are these
  entries_again : entries_of inodes slot ≡ entries
  entries_again =
      ap (λ (numbers : List ℕ). map (made numbers) (range_with_len 0 (length numbers))) numbers_again
      ∙ sym (fill_by_all (made inodes_of_entries) entries (length inodes_of_entries) nothing (sym as_many)
      (λ k h.
      same_entry (inode_at k 0 (omega (arith, as_many)))
      (has.records k (get_or entries k nothing) (slice_get-get_or entries k nothing (omega (arith, as_many))))))
    where
      made : List ℕ → ℕ → Entry
      made numbers k = record { inode = slice_index numbers k; bytes = part (record_byte inodes k) 512 slot }

      same_entry : {entry : Entry} {i : ℕ} {bytes : List ℕ} → i ≡ entry.inode → bytes ≡ entry.bytes → entry ≡ record { inode = i; bytes = bytes }
      same_entry p q = λ j. record { inode = sym p j; bytes = sym q j }

  -- each number is in its order
  next_is : (k : ℕ) → k < length entries → is_next inodes inodes_of_entries k ≡ true
  next_is k h =
      and_from (ltb (slice_index inodes_of_entries k) inodes) _ (lt-ltb (slice_index inodes_of_entries k) inodes (inode_below k h))
      (elim (cases_Bool (eqb k 0)) [
        | inl first ↦ or_left (eqb k 0) _ first
        | inr later ↦ (let above : k ≡ 0 → ⊥ = eqb-false k 0 later in
            let back : k - 1 + 1 ≡ k = omega arith in
            let order : slice_index inodes_of_entries (k - 1) < slice_index inodes_of_entries (k - 1 + 1) = ascending (k - 1) (omega (arith, as_many)) in
            let rises : slice_index inodes_of_entries (k - 1) < slice_index inodes_of_entries k =
            subst (λ (j : ℕ). slice_index inodes_of_entries (k - 1) < slice_index inodes_of_entries j) back order in
            or_right (eqb k 0) (ltb (slice_index inodes_of_entries (k - 1)) (slice_index inodes_of_entries k))
            (lt-ltb (slice_index inodes_of_entries (k - 1)) (slice_index inodes_of_entries k) rises))
      ])

  numbers_are_sound : numbers_fault inodes (numbers_of inodes slot) ≡ None
  numbers_are_sound =
      ap (numbers_fault inodes) numbers_again
      ∙ first_of-from (length inodes_of_entries) (λ k. fault_at (not (is_next inodes inodes_of_entries k)) (number_byte k))
      (λ k h. ap (λ (wrong : Bool). fault_at wrong (number_byte k)) (not_from_true (is_next inodes inodes_of_entries k) (next_is k (omega (arith, as_many)))))

pub read_again : (inodes : ℕ) (entries : List Entry) (slot : List ℕ) → inodes ≤ 2 ^ 32 → AreEntries inodes entries → HasEntries inodes entries slot →
    AreReadAgain inodes entries slot
read_again inodes entries slot small are has = record {
  again = entries_again inodes entries slot small are has;
  count = count_is_few inodes entries slot small are has;
  sound = numbers_are_sound inodes entries slot small are has;
}

-- one of the pieces that stand one behind another from a place on
pub piece_at : {X : Type 0} (f : X → List ℕ) (m : ℕ) (d : X) (xs : List X) (from : ℕ) (bytes : List ℕ)
    → ((j : ℕ) → j < length xs → length (f (get_or xs j d)) ≡ m) →
    part from (m * length xs) bytes ≡ flat_map f xs → (k : ℕ) → k < length xs → part (from + m * k) m bytes ≡ f (get_or xs k d)
piece_at f m d xs from bytes long is k h =
    let fits : m * k + m ≤ m * length xs =
    (let more : (k + 1) * m ≤ length xs * m = mul-le-mul_right m (let e : k + 1 ≤ length xs = omega arith in e) in omega arith) in
    sym (part-part (m * k) m from (m * length xs) bytes fits)
    ∙ ap (part (m * k) m) (is ∙ sym (append-nil (flat_map f xs)))
    ∙ part-flat_map f m d xs [] k long h

pub ranges_have : (inodes : ℕ) (entries : List Entry) (slot : List ℕ) → HasRangesOf inodes entries slot → HasEntries inodes entries slot
ranges_have inodes entries slot has = record {
  count = has.count;
  numbers = λ k entry is.
      let h = within k entry is in
      let many = length-map entries (λ (e : Entry). e.inode) in
      let said : part 4096 (4 * length (map (λ (e : Entry). e.inode) entries)) slot ≡ flat_map u32_bytes (map (λ (e : Entry). e.inode) entries) =
      ap (λ (n : ℕ). part 4096 (4 * n) slot) many ∙ has.numbers in
      piece_at u32_bytes 4 0 (map (λ (e : Entry). e.inode) entries) 4096 slot (λ j l. refl) said k (omega arith)
      ∙ ap u32_bytes (get_or-map (λ (e : Entry). e.inode) entries k none 0 h ∙ ap (λ (e : Entry). e.inode) (get_or_from_slice_get entries k entry none is));
  records = λ k entry is.
      let h = within k entry is in
      let place : record_byte inodes k ≡ record_byte inodes 0 + 512 * k = omega arith in
      ap (λ (at : ℕ). part at 512 slot) place
      ∙ piece_at (λ (e : Entry). e.bytes) 512 none entries (record_byte inodes 0) slot
      (λ j l. All-get_or (λ (e : Entry). length e.bytes ≡ 512) entries j none l has.long) has.records k h
      ∙ ap (λ (e : Entry). e.bytes) (get_or_from_slice_get entries k entry none is);
}
  where
    none : Entry
    none = record { inode = 0; bytes = [] }

    within : (k : ℕ) (entry : Entry) → slice_get entries k ≡ Some entry → k < length entries
    within k entry is =
        elim (cases_lt k (length entries)) [
          | inl below ↦ below
          | inr past ↦ absurd (let gone = slice_get_past entries k past in cc)
        ]
