-- What reads of the open slots and of the inode table settle.
use Rattle.std.proofs.Common.{◌≡◌, ℕ, zero, suc, ◌+◌, ◌*◌, ◌/◌, ◌<◌, ◌≤◌, true, false, cond, List, [], ◌∷◌, ◌++◌, length, map, drop, None, slice_index, slice_index_or, refl, sym, ap, ap₂, subst, ◌∙◌, arith, get_or, drop-cons}
use Rattle.sfs_base.proofs.BasicNumbers.{none_below, less_lower}
use Rattle.std.specs.List.{range_with_len, filter, flat_map, AllByRecursion}
use Rattle.std.proofs.lemmas.List.FromFn.{length-range_with_len, get_or-range_with_len}
use Rattle.std.proofs.Math.Seq.{drop-length}
use Rattle.sfs_image.specs.Bytes.{part}
use Rattle.sfs_image.specs.Journal.{Entry, record_byte}
use Rattle.sfs_image.specs.Laws.{IsDivided}
use Rattle.sfs_image.specs.Settled.{Body, body_in, open_body, open_bodies, journal_slot, slot_byte, slot_count, table_byte, table_record, settled}
use Rattle.sfs_image.specs.Super.{Layout, IsLayout, slot_blocks, number_blocks, record_blocks, table_start}
use Rattle.sfs_image.proofs.Basics.{map_same}
use Rattle.sfs_image.proofs.FrameLaws.{part-part}
use Rattle.sfs_image.proofs.LayoutLaws.{divided}
use Rattle.recovery.specs.declared.journals.OpenSlot.{OpenSlot}
use Rattle.recovery.specs.declared.newest.Newest.{Newest}
use Rattle.recovery.specs.Open.{is_slot_open, IsOpenSlot, IsGoodSlot, AreOpen}
use Rattle.recovery.specs.Settling.{AreSettled, best_of, with_body, packed_body, body_read, bodies_read, packed_entries, WereRead}
use Rattle.recovery.specs.declared.settled.Journals.{Journals}

-- a record lies within as many as there are
record_within : (k n : ℕ) → k < n → 512 * k + 512 ≤ 512 * n
record_within k n lt = omega arith

-- where the records of a slot begin
pub record RecordsLie (layout : Layout) (one : OpenSlot) (at : ℕ) : Type 0 where
  pub slot : ℕ
  pub block : ℕ
  pub byte : ℕ
  pub slot_is : slot ≡ slot_byte layout one.number
  pub place : 4096 * block + byte ≡ record_byte layout.inodes 0
  pub at_is : at ≡ slot + 4096 * block + byte

records_at : (layout : Layout) (one : OpenSlot) (at : ℕ) → RecordsLie layout one at
    → at ≡ slot_byte layout one.number + 4096 * (1 + number_blocks layout.inodes)
records_at layout one at lie =
    sum lie.slot lie.block lie.byte (slot_byte layout one.number) (1 + number_blocks layout.inodes) at lie.slot_is lie.place lie.at_is
  where
    sum : (s b y a r at : ℕ) → s ≡ a → 4096 * b + y ≡ 4096 * r + 512 * 0 → at ≡ s + 4096 * b + y → at ≡ a + 4096 * r
    sum s b y a r at s_is place at_is = omega arith

-- they end within the disk
pub records_within : (layout : Layout) (size : ℕ) (one : OpenSlot) (at count : ℕ) → IsLayout size layout → IsGoodSlot layout one → RecordsLie layout one at
    → count ≡ length one.numbers.items
    → at + 512 * count ≤ 4096 * size
records_within layout size one at count fits good lie count_is =
    ends at (slot_byte layout one.number) layout.inodes count (length one.numbers.items) (table_start layout)
    (record_blocks layout.inodes) layout.blocks size fits.room fits.within
    (IsDivided.last_slot (divided layout) one.number good.within) good.few count_is (records_at layout one at lie)
  where
    ends : (at a i c n s r b z : ℕ) → s + r + 1 ≤ b → b ≤ z → a + 4096 * (1 + (i + 1023) / 1024 + (i + 7) / 8) ≤ 4096 * s → n ≤ i → c ≡ n
        → at ≡ a + 4096 * (1 + (i + 1023) / 1024) → at + 512 * c ≤ 4096 * z
    ends at a i c n s r b z room within le few is at_is = omega arith

-- the body that was read is the slot's
pub body_same : (layout : Layout) (image bytes : List ℕ) (one : OpenSlot) (at : ℕ) → IsOpenSlot layout image one → IsGoodSlot layout one
    → RecordsLie layout one at
    → bytes ≡ part at (512 * length one.numbers.items) image → packed_body one.stamp one.numbers.items bytes ≡ body_read layout image one
body_same layout image bytes one at slot good lie is = λ i. record {
  stamp = slot.stamp i;
  entries =
      (entries_same
      ∙ ap (λ (numbers : List ℕ). map
      (λ k. record { inode = slice_index numbers k; bytes = part (record_byte layout.inodes k) 512 (journal_slot layout image one.number) })
      (range_with_len 0 (length numbers)))
      slot.numbers)
      i;
}
  where
    piece : (k : ℕ) → k < length one.numbers.items → part (512 * k) 512 bytes ≡ part (record_byte layout.inodes k) 512 (journal_slot layout image one.number)
    piece k less =
        ap (part (512 * k) 512) is ∙ part-part (512 * k) 512 at (512 * length one.numbers.items) image (record_within k (length one.numbers.items) less)
        ∙ ap (λ a. part a 512 image) (same_place at (slot_byte layout one.number) (1 + number_blocks layout.inodes) k (records_at layout one at lie))
        ∙ sym
        (part-part (record_byte layout.inodes k) 512 (slot_byte layout one.number) (4096 * slot_blocks layout.inodes) image
        (outer layout.inodes k (length one.numbers.items) less good.few))
      where
        same_place : (at a r k : ℕ) → at ≡ a + 4096 * r → at + 512 * k ≡ a + (4096 * r + 512 * k)
        same_place at a r k at_is = omega arith

        outer : (i k n : ℕ) → k < n → n ≤ i → 4096 * (1 + (i + 1023) / 1024) + 512 * k + 512 ≤ 4096 * (1 + (i + 1023) / 1024 + (i + 7) / 8)
        outer i k n lt few = omega arith

    entries_same : packed_entries one.numbers.items bytes (length one.numbers.items)
        ≡ map (λ k. record { inode = slice_index one.numbers.items k; bytes = part (record_byte layout.inodes k) 512 (journal_slot layout image one.number) })
        (range_with_len 0 (length one.numbers.items))
    entries_same = map_same _ _ 0 (range_with_len 0 (length one.numbers.items)) (λ k less.
        let there : get_or (range_with_len 0 (length one.numbers.items)) k 0 < length one.numbers.items =
        subst (λ j. j < length one.numbers.items) (sym (get_or-range_with_len 0 (length one.numbers.items) k 0 (within k less)))
        (in_range k (within k less)) in
        ap (λ
        (b : List ℕ). let e : Entry =
        record { inode = slice_index one.numbers.items (get_or (range_with_len 0 (length one.numbers.items)) k 0); bytes = b } in
        e)
        (piece (get_or (range_with_len 0 (length one.numbers.items)) k 0) there))
      where
        within : (k : ℕ) → k < length (range_with_len 0 (length one.numbers.items)) → k < length one.numbers.items
        within k less = subst (λ m. k < m) (length-range_with_len 0 (length one.numbers.items)) less

        in_range : (k : ℕ) → k < length one.numbers.items → 0 + k < length one.numbers.items
        in_range k less = omega arith

-- the records of the table, of which no slot has one
pub table_settled : (layout : Layout) (image bytes : List ℕ) (kept : Newest) → length kept.stamps.items ≡ layout.inodes
    → length kept.records.items ≡ layout.inodes
    → ((i : ℕ) → slice_index_or kept.stamps.items i None ≡ None) → bytes ≡ part (table_byte layout 0) (512 * layout.inodes) image
    → ((i : ℕ) → i < layout.inodes → slice_index_or kept.records.items i [] ≡ part (512 * i) 512 bytes)
    → AreSettled layout.inodes (table_record layout image) (λ _. None) kept
table_settled layout image bytes kept stamp_count record_count stamps_are is copied = record {
  stamp_count = stamp_count;
  record_count = record_count;
  stamps = λ i less. stamps_are i;
  records =
      λ i less. copied i less ∙ ap (part (512 * i) 512) is
      ∙ part-part (512 * i) 512 (table_byte layout 0) (512 * layout.inodes) image (record_within i layout.inodes less)
      ∙ ap (λ a. part a 512 image) (place (table_start layout) i);
}
  where
    place : (s i : ℕ) → 4096 * s + 512 * 0 + 512 * i ≡ 4096 * s + 512 * i
    place s i = omega arith

-- one slot more, which comes before
pub slot_settled : (layout : Layout) (image : List ℕ) (found : List OpenSlot) (left k : ℕ) (one : OpenSlot) (kept : Newest) → left ≡ suc k
    → one ≡ slice_index_or found k one → k < length found
    → AreSettled layout.inodes (table_record layout image) (with_body (body_read layout image one) (best_of (bodies_read layout image (drop left found)))) kept
    → AreSettled layout.inodes (table_record layout image) (best_of (bodies_read layout image (drop k found))) kept
slot_settled layout image found left k one kept next is less are =
    subst (λ (rest : List OpenSlot). AreSettled layout.inodes (table_record layout image) (best_of (bodies_read layout image rest)) kept)
    (sym (drop-cons found k one less ∙ ap₂ (λ (o : OpenSlot) (rest : List OpenSlot). o ∷ rest) (sym is) refl))
    (subst (λ n. AreSettled layout.inodes (table_record layout image) (best_of (bodies_read layout image (one ∷ drop n found))) kept) next are)

one_of : (P : OpenSlot → Type 0) (found : List OpenSlot) (k : ℕ) (d : OpenSlot) → AllByRecursion P found → k < length found → P (slice_index_or found k d)
one_of P [] k d all less = absurd (none_below less)
one_of P (first ∷ found) zero d all less = all.0
one_of P (first ∷ found) (suc k) d all less = one_of P found k d all.1 (less_lower less)

-- each of those that were found has what all have
pub found_has : (P : OpenSlot → Type 0) (found : List OpenSlot) (k : ℕ) (one : OpenSlot) → AllByRecursion P found → k < length found
    → one ≡ slice_index_or found k one → P one
found_has P found k one all less is = subst P (sym is) (one_of P found k one all less)

-- the bodies of the slots that were found are those of the open ones
pub bodies_are : (layout : Layout) (image : List ℕ) (found : List OpenSlot) → AreOpen layout image (slot_count layout) found
    → bodies_read layout image found ≡ open_bodies layout image
bodies_are layout image found are =
    by_number found ∙ ap (map (λ k. body_in layout.inodes (journal_slot layout image k))) are.numbers ∙ sym (opened (range_with_len 0 (slot_count layout)))
  where
    by_number : (found : List OpenSlot)
        → bodies_read layout image found ≡ map (λ k. body_in layout.inodes (journal_slot layout image k)) (map (λ (one : OpenSlot). one.number) found)
    by_number [] = refl
    by_number (one ∷ found) = ap (λ (rest : List Body). body_in layout.inodes (journal_slot layout image one.number) ∷ rest) (by_number found)

    opened : (ks : List ℕ)
        → flat_map (λ k. open_body layout.inodes (journal_slot layout image k)) ks
        ≡ map (λ k. body_in layout.inodes (journal_slot layout image k)) (filter (is_slot_open layout image) ks)
    opened [] = refl
    opened (k ∷ ks) =
        elim (is_slot_open layout image k) as (λ b. cond b (body_in layout.inodes (journal_slot layout image k) ∷ []) []
        ++ flat_map (λ k. open_body layout.inodes (journal_slot layout image k)) ks
        ≡ map (λ k. body_in layout.inodes (journal_slot layout image k))
        (cond b (k ∷ filter (is_slot_open layout image) ks) (filter (is_slot_open layout image) ks))) [
          | true ↦ ap (λ (rest : List Body). body_in layout.inodes (journal_slot layout image k) ∷ rest) (opened ks)
          | false ↦ opened ks
        ]

-- at the end of the slots none is left
pub none_settled : (layout : Layout) (image : List ℕ) (found : List OpenSlot) (left : ℕ) (kept : Newest) → left ≡ length found
    → AreSettled layout.inodes (table_record layout image) (λ _. None) kept
    → AreSettled layout.inodes (table_record layout image) (best_of (bodies_read layout image (drop left found))) kept
none_settled layout image found left kept all are =
    subst (λ (rest : List OpenSlot). AreSettled layout.inodes (table_record layout image) (best_of (bodies_read layout image rest)) kept)
    (sym (ap (λ n. drop n found) all ∙ drop-length found)) are

-- where the records of a slot begin, by the place that the format gives them
pub records_lie : (layout : Layout) (one : OpenSlot) (inodes slot block byte first second : ℕ) → inodes ≡ layout.inodes → slot ≡ slot_byte layout one.number
    → first ≡ block → second ≡ byte
    → 4096 * block + byte ≡ record_byte inodes 0 → RecordsLie layout one (slot + 4096 * first + second)
records_lie layout one inodes slot block byte first second inodes_is slot_is first_is second_is place = record {
  slot = slot;
  block = first;
  byte = second;
  slot_is = slot_is;
  place = ap₂ (λ b y. 4096 * b + y) first_is second_is ∙ place ∙ ap (λ i. record_byte i 0) inodes_is;
  at_is = refl;
}

-- what the newest records are: the settled ones
pub settled_are : (image : List ℕ) (read : Journals) (records : List (List ℕ)) → WereRead image read → records ≡ read.newest.records.items → (i : ℕ)
    → i < read.layout.inodes
    → slice_index_or records i [] ≡ settled read.layout image i
settled_are image read records were same i less = ap (λ (r : List (List ℕ)). slice_index_or r i []) same ∙ were.settled.records i less
