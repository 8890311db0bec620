-- The pieces of a commit are read as its body.
use Rattle.std.proofs.Common.{◌≡◌, ◌≢◌, ℕ, ◌+◌, ◌*◌, ◌<◌, ◌≤◌, Bool, List, [], ◌++◌, take, length, get_or, None, Some, refl, sym, ◌∙◌, ap, subst, arith, cond}
use Rattle.sfs_image.specs.Bytes.{part, zeros, u32_bytes, u64_bytes, number_from}
use Rattle.sfs_image.specs.Journal.{head_of, head_bytes, HasRangesOf, number_byte, record_byte}
use Rattle.sfs_image.specs.Laws.{record_at}
use Rattle.sfs_image.specs.Settled.{Stamped, body_in, record_in, journal_slot, slot_byte, slot_count, settled, table_byte, table_record}
use Rattle.sfs_image.specs.Super.{slot_blocks}
use Rattle.sfs_image.proofs.BytesLaws.{number_from-u32_bytes, number_from-u64_bytes}
use Rattle.sfs_image.proofs.EntriesLaws.{read_again, ranges_have}
use Rattle.sfs_image.proofs.FrameLaws.{part-part}
use Rattle.sfs_image.proofs.JournalLaws.{behind_512}
use Rattle.sfs_image.proofs.SettledLaws.{settled_newest}
use Rattle.journal_one.specs.Job.{Job, Piece, numbers_piece, records_piece, head_piece, table_piece, no_entry, IsJob}
use Rattle.journal_one.specs.Known.{IsWrittenIn, IsOpenIn}
use Rattle.journal_one.specs.Laws.{job_body, job_head, HasPieces, HasBodyPieces, HasBodyOf}
use Rattle.journal_one.proofs.Places.{body_as, body_lies, length-numbers, length-records, length-head, entry_long, few_entries}

-- a part of bytes that stand
part_of_standing : (piece : Piece) (image : List ℕ) (off n : ℕ) → IsWrittenIn piece image → off + n ≤ length piece.bytes
    → part (piece.at + off) n image ≡ part off n piece.bytes
part_of_standing piece image off n stands within = sym (part-part off n piece.at (length piece.bytes) image within) ∙ ap (part off n) stands

-- where all that fills a slot stands, the body does
pub body_of_pieces : (job : Job) (image : List ℕ) → IsJob job → HasPieces job image → HasBodyPieces job image
body_of_pieces job image is has k lt = subst (λ (p : Piece). IsWrittenIn p image) (body_as job is k) (has (length job.fresh + k) (omega arith))

module _ (job : Job) (image : List ℕ) (is : IsJob job) (body_stands : HasBodyPieces job image) where
  slot : List ℕ
  slot = journal_slot job.place.layout image job.place.slot

  -- a part of the slot is one of the image
  in_slot : (from n : ℕ) → from + n ≤ 4096 * slot_blocks job.place.layout.inodes
      → part from n slot ≡ part (slot_byte job.place.layout job.place.slot + from) n image
  unfolding slot
  in_slot from n within = part-part from n (slot_byte job.place.layout job.place.slot) (4096 * slot_blocks job.place.layout.inodes) image within

  -- and of the slot's first block
  in_head : (from n : ℕ) → 512 + (from + n) ≤ 4096 → from + n ≤ 16 → part (512 + from) n (part 0 4096 slot) ≡ part from n (head_piece job).bytes
  in_head from n within few =
      let lies = (body_lies job is 2) in
      part-part (512 + from) n 0 4096 slot (omega arith)
      ∙ ap (λ (k : ℕ). part k n slot) (let e : 0 + (512 + from) ≡ 512 + from = omega arith in e)
      ∙ in_slot (512 + from) n (omega arith)
      ∙ ap (λ (k : ℕ). part k n image)
      (let e : slot_byte job.place.layout job.place.slot + (512 + from) ≡ slot_byte job.place.layout job.place.slot + 512 + from = omega arith in e)
      ∙ part_of_standing (head_piece job) image from n (body_stands 2 (omega arith)) (omega (arith, length-head job is))

  few : length job.entries ≤ job.place.layout.inodes
  few = few_entries job.place.layout.inodes job.entries is.are

  count_read : (head_of (part 0 4096 slot)).count ≡ length job.entries
  count_read =
      let bytes : part 0 4 (head_piece job).bytes ≡ u32_bytes (length job.entries) = refl in
      ap (number_from 0 4) (in_head 0 4 (omega arith) (omega arith) ∙ bytes)
      ∙ number_from-u32_bytes (length job.entries) [] (omega (arith, few, is.place.fits.ranges.inodes_high))

  stamp_read : (head_of (part 0 4096 slot)).stamp ≡ job.stamp
  unfolding zeros
  stamp_read =
      let bytes : part 8 8 (head_piece job).bytes ≡ u64_bytes job.stamp = refl in
      ap (number_from 0 8) (in_head 8 8 (omega arith) (omega arith) ∙ bytes)
      ∙ number_from-u64_bytes job.stamp [] is.stamp

  ranges : HasRangesOf job.place.layout.inodes job.entries slot
  ranges = record {
    count = count_read;
    long = is.long;
    numbers =
        let lies = body_lies job is 0 in
        in_slot (number_byte 0) (4 * length job.entries) (omega (arith, lies.begins, lies.fits, length-numbers job is))
        ∙ ap (λ (n : ℕ). part (numbers_piece job).at n image) (sym (length-numbers job is))
        ∙ body_stands 0 (omega arith);
    records =
        let lies = body_lies job is 1 in
        in_slot (record_byte job.place.layout.inodes 0) (512 * length job.entries) (omega (arith, lies.begins, lies.fits, length-records job is))
        ∙ ap (λ (n : ℕ). part (records_piece job).at n image) (sym (length-records job is))
        ∙ body_stands 1 (omega arith);
  }

  pub body_read : HasBodyOf job image
  unfolding slot
  body_read =
      let again =
      read_again job.place.layout.inodes job.entries slot (omega (arith, is.place.fits.ranges.inodes_high)) is.are
      (ranges_have job.place.layout.inodes job.entries slot ranges) in
      let entries = again.again in
      let stamp = stamp_read in
      record { count = again.count; numbers = again.sound; body = λ i. record { stamp = stamp i; entries = entries i } }

  -- the first block has the bytes of the head
  pub head_spelled : part 512 16 (part 0 4096 (journal_slot job.place.layout image job.place.slot)) ≡ part 512 16 (head_bytes (job_head job))
  unfolding slot zeros
  head_spelled =
      let bytes : part 0 16 (head_piece job).bytes ≡ take 16 (u32_bytes (length job.entries) ++ (zeros 4 ++ (u64_bytes job.stamp ++ zeros 3568))) = refl in
      in_head 0 16 (omega arith) (omega arith) ∙ bytes ∙ sym (ap (take 16) (behind_512 (job_head job)))

  -- what an open slot settles
  pub slot_settles : (i : ℕ) (ours : Stamped (List ℕ)) → IsOpenIn job.place image → record_in i (job_body job) ≡ Some ours
      → ((k : ℕ) (other : Stamped (List ℕ)) → k < slot_count job.place.layout → k ≢ job.place.slot → record_at job.place.layout image i k ≡ Some other
      → other.stamp < ours.stamp)
      → settled job.place.layout image i ≡ ours.value
  slot_settles i ours opened gives others =
      let here : record_at job.place.layout image i job.place.slot ≡ Some ours =
      ap (λ (b : Bool). cond b (record_in i (body_in job.place.layout.inodes (journal_slot job.place.layout image job.place.slot))) None) opened
      ∙ ap (record_in i) body_read.body ∙ gives in
      settled_newest job.place.layout image i job.place.slot ours is.place.within here others

-- a placed record is the table's
pub placed_in_table : (job : Job) (image : List ℕ) (k : ℕ) → IsJob job → k < length job.entries → IsWrittenIn (table_piece job k) image
    → table_record job.place.layout image (get_or job.entries k no_entry).inode ≡ (get_or job.entries k no_entry).bytes
placed_in_table job image k is lt stands =
    ap (λ (n : ℕ). part (table_byte job.place.layout (get_or job.entries k no_entry).inode) n image) (sym (entry_long job is k lt)) ∙ stands
