-- What bytes keep where others change, and what a journal slot keeps.
use Rattle.std.proofs.Common.{◌≡◌, ℕ, ◌+◌, ◌-◌, ◌*◌, ◌≤◌, min, eqb, List, take, drop, map, length, slice_index, sym, ap, ◌∙◌, subst, arith, inl, inr}
use Rattle.std.proofs.lemmas.List.{take-take, drop-take, drop-drop, length-take, length-drop, get_or-take}
use Rattle.std.specs.List.{range_with_len}
use Rattle.sfs_image.specs.Bytes.{part, u32s_at, number_from}
use Rattle.sfs_image.specs.ImageOf.{Transaction, HasBody}
use Rattle.sfs_image.specs.ImageWrites.{AgreesOutside, LiesApart}
use Rattle.sfs_image.specs.Journal.{head_of, numbers_of, entries_of, record_byte, numbers_fault}
use Rattle.sfs_image.specs.Settled.{body_in}

-- a part of a part
pub part-part : (a m from n : ℕ) (bytes : List ℕ) → a + m ≤ n → part a m (part from n bytes) ≡ part (from + a) m bytes
part-part a m from n bytes within =
    let rest : a + (n - a) ≡ n = omega arith in
    ap (λ (k : ℕ). take m (drop a (take k (drop from bytes)))) (sym rest)
    ∙ ap (take m) (drop-take a (n - a) (drop from bytes))
    ∙ take-take m (n - a) (drop a (drop from bytes)) (omega arith)
    ∙ ap (take m) (drop-drop a from bytes)

-- a part before the end of the front is a part of the front
part_of_front : (from m at : ℕ) (bytes : List ℕ) → from + m ≤ at → part from m (take at bytes) ≡ part from m bytes
part_of_front from m at bytes within =
    sym (drop-take from m (take at bytes)) ∙ ap (drop from) (take-take (from + m) at bytes within) ∙ drop-take from m bytes

-- a part that lies behind a place is a part of what lies there
part_behind : (from m place : ℕ) (bytes : List ℕ) → place ≤ from → part (from - place) m (drop place bytes) ≡ part from m bytes
part_behind from m place bytes behind =
    let back : place + (from - place) ≡ from = omega arith in
    ap (take m) (drop-drop (from - place) place bytes) ∙ ap (λ (k : ℕ). part k m bytes) back

-- a part apart from what changes stays
pub part_apart : (at n : ℕ) (old new : List ℕ) → AgreesOutside at n old new → (from m : ℕ) → LiesApart from m at n → part from m new ≡ part from m old
part_apart at n old new same from m (inl before) =
    sym (part_of_front from m at new before) ∙ ap (part from m) same.before ∙ part_of_front from m at old before
part_apart at n old new same from m (inr behind) =
    sym (part_behind from m (at + n) new behind) ∙ ap (part (from - (at + n)) m) same.behind ∙ part_behind from m (at + n) old behind

-- a change within a part is a change of the part
pub part_changes : (from k n m : ℕ) (old new : List ℕ) → AgreesOutside (from + k) n old new → k + n ≤ m → AgreesOutside k n (part from m old) (part from m new)
part_changes from k n m old new same within = record {
  before = front new ∙ ap (drop from) same.before ∙ sym (front old);
  behind = rest new ∙ ap (take (m - (k + n))) same.behind ∙ sym (rest old);
  size = omega (arith, length-take m (drop from old), length-take m (drop from new), length-drop from old, length-drop from new, same.size);
}
  where
    front : (bytes : List ℕ) → take k (part from m bytes) ≡ drop from (take (from + k) bytes)
    front bytes = take-take k m (drop from bytes) (omega arith) ∙ sym (drop-take from k bytes)

    rest : (bytes : List ℕ) → drop (k + n) (part from m bytes) ≡ take (m - (k + n)) (drop (from + k + n) bytes)
    rest bytes =
        let all : k + n + (m - (k + n)) ≡ m = omega arith in
        let place : from + (k + n) ≡ from + k + n = omega arith in
        ap (λ (j : ℕ). drop (k + n) (take j (drop from bytes))) (sym all)
        ∙ drop-take (k + n) (m - (k + n)) (drop from bytes)
        ∙ ap (take (m - (k + n))) (drop-drop (k + n) from bytes ∙ ap (λ (j : ℕ). drop j bytes) place)

-- the head's fields behind the gate, and what stands behind the head, stay where only the first bytes of a slot change
module _ (n inodes : ℕ) (old new : List ℕ) (same : AgreesOutside 0 n old new) (few : n ≤ 512) where
  field_kept : (at m : ℕ) → 512 ≤ at → at + m ≤ 4096 → part at m (part 0 4096 new) ≡ part at m (part 0 4096 old)
  field_kept at m low high =
      let zero_on : 0 + at ≡ at = omega arith in
      part-part at m 0 4096 new high
      ∙ ap (λ (k : ℕ). part k m new) zero_on
      ∙ part_apart 0 n old new same at m (inr (omega arith))
      ∙ sym (part-part at m 0 4096 old high ∙ ap (λ (k : ℕ). part k m old) zero_on)

  pub count_kept : (head_of (part 0 4096 new)).count ≡ (head_of (part 0 4096 old)).count
  count_kept = ap (number_from 0 4) (field_kept 512 4 (omega arith) (omega arith))

  pub stamp_kept : (head_of (part 0 4096 new)).stamp ≡ (head_of (part 0 4096 old)).stamp
  stamp_kept = ap (number_from 0 8) (field_kept 520 8 (omega arith) (omega arith))

  pub numbers_kept : numbers_of inodes new ≡ numbers_of inodes old
  unfolding u32s_at
  numbers_kept =
      let size : min (head_of (part 0 4096 new)).count inodes ≡ min (head_of (part 0 4096 old)).count inodes = ap (λ (c : ℕ). min c inodes) count_kept in
      ap (λ (c : ℕ). u32s_at 4096 c new) size
      ∙ (let c = min (head_of (part 0 4096 old)).count inodes in
      ap (λ (bytes : List ℕ). map (λ k. number_from 0 4 (drop (4 * k) bytes)) (range_with_len 0 c))
      (part_apart 0 n old new same 4096 (4 * c) (inr (omega arith))))

  record_kept : (k : ℕ) → part (record_byte inodes k) 512 new ≡ part (record_byte inodes k) 512 old
  record_kept k = part_apart 0 n old new same (record_byte inodes k) 512 (inr (omega arith))

  pub entries_kept : entries_of inodes new ≡ entries_of inodes old
  entries_kept = λ i. map (λ k. record { inode = slice_index (numbers_kept i) k; bytes = record_kept k i }) (range_with_len 0 (length (numbers_kept i)))

  pub body_kept : body_in inodes new ≡ body_in inodes old
  body_kept = λ i. record { stamp = stamp_kept i; entries = entries_kept i }

  -- a slot keeps its body where only its first bytes change
  pub whole_kept : (one : Transaction) → HasBody inodes one old → HasBody inodes one new
  whole_kept one has = record {
    count = subst (λ (c : ℕ). c ≤ inodes) (sym count_kept) has.count;
    numbers = ap (numbers_fault inodes) numbers_kept ∙ has.numbers;
    body = body_kept ∙ has.body;
  }

-- the gate's byte
pub gate_byte : (slot : List ℕ) → slice_index (part 0 4096 slot) 0 ≡ slice_index slot 0
gate_byte slot = get_or-take 4096 slot 0 0 (omega arith)

-- a gate stays where no byte before `at` changes, and `at` lies behind it
pub gate_kept : (at n : ℕ) (old new : List ℕ) → AgreesOutside at n old new → 1 ≤ at → (head_of (part 0 4096 new)).gate ≡ (head_of (part 0 4096 old)).gate
gate_kept at n old new same behind =
    let front : part 0 1 new ≡ part 0 1 old = part_apart at n old new same 0 1 (inl (omega arith)) in
    let byte : slice_index new 0 ≡ slice_index old 0 =
    sym (get_or-take 1 new 0 0 (omega arith)) ∙ ap (λ (bytes : List ℕ). slice_index bytes 0) front ∙ get_or-take 1 old 0 0 (omega arith) in
    ap (λ (b : ℕ). eqb b 1) (gate_byte new ∙ byte ∙ sym (gate_byte old))
