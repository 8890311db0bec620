-- Where the pieces of a commit lie, and that they lie apart.
use Rattle.std.proofs.Common.{◌≡◌, ℕ, zero, suc, ◌+◌, ◌-◌, ◌*◌, ◌<◌, ◌≤◌, Bool, true, false, ltb, List, ◌++◌, map, length, get_or, replicate, refl, sym, ◌∙◌, ap, subst, arith, cond}
use Rattle.std.proofs.lemmas.Bool.{lt-ltb, le-ltb}
use Rattle.std.proofs.lemmas.List.{length-map, get_or-map, length-append}
use Rattle.std.proofs.lemmas.List.Elements.{All-get_or}
use Rattle.sfs_image.specs.Bytes.{zeros, u32_bytes, u64_bytes}
use Rattle.sfs_image.specs.ImageOf.{FreshBlock}
use Rattle.sfs_image.specs.Journal.{Entry, AreEntries, number_byte, record_byte, records_start}
use Rattle.sfs_image.specs.Settled.{slot_byte, table_byte}
use Rattle.sfs_image.specs.Super.{Layout, slot_blocks, table_start, data_start}
use Rattle.sfs_image.proofs.BytesLaws.{length-zeros}
use Rattle.sfs_image.proofs.EntriesLaws.{place_below, few_below}
use Rattle.sfs_image.proofs.LayoutLaws.{divided}
use Rattle.sfs_image.proofs.PiecesLaws.{length-pieces}
use borrow.Rule.Slice.PartMut.{put_mid}
use Rattle.journal_one.specs.Job.{Place, Job, Piece, fresh_piece, numbers_piece, records_piece, head_piece, body_piece, fill_piece, table_piece, no_block, no_entry, IsJob, LiesInData}

-- the bytes of a piece lie within a slot, from a byte on that is behind its gate
pub record LiesInSlot (place : Place) (piece : Piece) : Type 0 where
  pub from : ℕ
  pub begins : piece.at ≡ slot_byte place.layout place.slot + from
  pub behind : 512 ≤ from
  pub fits : from + length piece.bytes ≤ 4096 * slot_blocks place.layout.inodes
  pub some : 0 < length piece.bytes

pub few_entries : (inodes : ℕ) (entries : List Entry) → AreEntries inodes entries → length entries ≤ inodes
few_entries inodes entries are =
    let inode : Entry → ℕ = λ entry. entry.inode in
    let as_many : length (map inode entries) ≡ length entries = length-map entries inode in
    few_below (length entries) inodes (λ k. get_or (map inode entries) k 0)
    (λ k h. place_below (map inode entries) k are.ascend (omega (arith, as_many)))
    (λ k h. subst (λ (i : ℕ). i < inodes) (sym (get_or-map inode entries k no_entry 0 h))
    (All-get_or (λ (entry : Entry). entry.inode < inodes) entries k no_entry h are.below))

module _ (job : Job) (is : IsJob job) where
  layout : Layout
  layout = job.place.layout

  few : length job.entries ≤ job.place.layout.inodes
  few = few_entries job.place.layout.inodes job.entries is.are

  pub last_number : 4096 + 4 * length job.entries ≤ 4096 * records_start job.place.layout.inodes
  last_number =
      let h = (divided job.place.layout).numbers (length job.entries - 1) (omega (arith, few, is.some)) in
      omega (arith, h, is.some)

  last_record : record_byte job.place.layout.inodes 0 + 512 * length job.entries ≤ 4096 * slot_blocks job.place.layout.inodes
  last_record =
      let h = (divided job.place.layout).records (length job.entries - 1) (omega (arith, few, is.some)) in
      omega (arith, h, is.some)

  pub length-numbers : length (numbers_piece job).bytes ≡ 4 * length job.entries
  length-numbers =
      length-pieces u32_bytes 4 0 (map (λ (entry : Entry). entry.inode) job.entries) (λ j h. refl)
      ∙ ap (λ (n : ℕ). 4 * n) (length-map job.entries (λ (entry : Entry). entry.inode))

  pub length-records : length (records_piece job).bytes ≡ 512 * length job.entries
  length-records =
      length-pieces (λ (entry : Entry). entry.bytes) 512 no_entry job.entries
      (λ j h. All-get_or (λ (entry : Entry). length entry.bytes ≡ 512) job.entries j no_entry h is.long)

  pub length-head : length (head_piece job).bytes ≡ 16
  length-head =
      omega (
        arith,
        length-append (u32_bytes (length job.entries) ++ zeros 4) (u64_bytes job.stamp),
        length-append (u32_bytes (length job.entries)) (zeros 4),
        length-zeros 4,
      )

  pub head_lies : LiesInSlot job.place (head_piece job)
  head_lies =
      record { from = 512; begins = refl; behind = omega arith; fits = omega (arith, length-head, last_number, last_record); some = omega (arith, length-head) }

  pub numbers_lie : LiesInSlot job.place (numbers_piece job)
  numbers_lie = record {
    from = number_byte 0;
    begins = refl;
    behind = omega arith;
    fits = omega (arith, length-numbers, last_number, last_record);
    some = omega (arith, length-numbers, is.some);
  }

  pub records_lie : LiesInSlot job.place (records_piece job)
  records_lie = record {
    from = record_byte job.place.layout.inodes 0;
    begins = refl;
    behind = omega arith;
    fits = omega (arith, length-records, last_record);
    some = omega (arith, length-records, is.some);
  }

  -- each piece of the body lies in the slot
  pub body_lies : (k : ℕ) → LiesInSlot job.place (body_piece job k)
  body_lies zero = numbers_lie
  body_lies (suc zero) = records_lie
  body_lies (suc (suc k)) = head_lies

  -- a slot ends before the table and the data
  pub slot_ends : slot_byte job.place.layout job.place.slot + 4096 * slot_blocks job.place.layout.inodes ≤ 4096 * table_start job.place.layout
  slot_ends = (divided job.place.layout).last_slot job.place.slot is.place.within

  pub within_slot : (piece : Piece) → LiesInSlot job.place piece → piece.at + length piece.bytes ≤ 4096 * job.place.layout.blocks
  within_slot piece lies = omega (arith, lies.begins, lies.fits, slot_ends, is.place.fits.room)

  -- a fresh block and the body's pieces, by the number of a piece
  pub fresh_is : (k : ℕ) → k < length job.fresh → fill_piece job k ≡ fresh_piece (get_or job.fresh k no_block)
  fresh_is k lt =
      let test : ltb k (length job.fresh) ≡ true = lt-ltb k (length job.fresh) lt in
      ap (λ (b : Bool). cond b (fresh_piece (get_or job.fresh k no_block)) (body_piece job (k - length job.fresh))) test

  pub body_is : (k : ℕ) → length job.fresh ≤ k → fill_piece job k ≡ body_piece job (k - length job.fresh)
  body_is k le =
      let test : ltb k (length job.fresh) ≡ false = le-ltb k (length job.fresh) le in
      ap (λ (b : Bool). cond b (fresh_piece (get_or job.fresh k no_block)) (body_piece job (k - length job.fresh))) test

  -- a piece of the body is one of those that fill the slot
  pub body_as : (k : ℕ) → fill_piece job (length job.fresh + k) ≡ body_piece job k
  body_as k =
      let back : length job.fresh + k - length job.fresh ≡ k = omega arith in
      body_is (length job.fresh + k) (omega arith) ∙ ap (body_piece job) back

  -- a fresh block has all of its bytes
  pub fresh_whole : (k : ℕ) → k < length job.fresh → length (fill_piece job k).bytes ≡ 4096
  fresh_whole k lt =
      subst (λ (p : Piece). length p.bytes ≡ 4096) (sym (fresh_is k lt))
      (All-get_or (λ (one : FreshBlock). length one.bytes ≡ 4096) job.fresh k no_block lt is.whole)

  pub in_data : (k : ℕ) → k < length job.fresh → LiesInData job.place.layout (get_or job.fresh k no_block)
  in_data k lt = All-get_or (LiesInData job.place.layout) job.fresh k no_block lt is.in_data

  pub fresh_within : (k : ℕ) → k < length job.fresh → length (get_or job.fresh k no_block).bytes ≡ 4096
      → 4096 * (get_or job.fresh k no_block).block + length (get_or job.fresh k no_block).bytes ≤ 4096 * job.place.layout.blocks
  fresh_within k lt long = omega (arith, (in_data k lt).high)

  -- the entry of a number
  pub entry_below : (k : ℕ) → k < length job.entries → (get_or job.entries k no_entry).inode < job.place.layout.inodes
  entry_below k lt = All-get_or (λ (entry : Entry). entry.inode < job.place.layout.inodes) job.entries k no_entry lt is.are.below

  pub entry_long : (k : ℕ) → k < length job.entries → length (get_or job.entries k no_entry).bytes ≡ 512
  entry_long k lt = All-get_or (λ (entry : Entry). length entry.bytes ≡ 512) job.entries k no_entry lt is.long

  -- a record of the table ends before the data
  pub record_ends : (k : ℕ) → k < length job.entries
      → table_byte job.place.layout (get_or job.entries k no_entry).inode + 512 ≤ 4096 * data_start job.place.layout
  record_ends k lt = (divided job.place.layout).table (get_or job.entries k no_entry).inode (entry_below k lt)

  pub table_within : (k : ℕ) → k < length job.entries → (table_piece job k).at + length (table_piece job k).bytes ≤ 4096 * job.place.layout.blocks
  table_within k lt = omega (arith, entry_long k lt, record_ends k lt, is.place.fits.room)

-- the 16 bytes of a head, by two writes
pub head_written : (count stamp : ℕ) (first second : List ℕ) → first ≡ u32_bytes count → second ≡ u64_bytes stamp
    → put_mid 8 8 (first ++ replicate 12 0) second ≡ u32_bytes count ++ zeros 4 ++ u64_bytes stamp
unfolding zeros
head_written count stamp first second is_first is_second =
    ap (λ (l : List ℕ). put_mid 8 8 (l ++ replicate 12 0) second) is_first ∙ ap (λ (l : List ℕ). put_mid 8 8 (u32_bytes count ++ replicate 12 0) l) is_second
