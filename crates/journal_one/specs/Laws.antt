-- The laws of a commit's pieces, each of which a function of the module laws proves.
use Rattle.std.specs.Prelude.{◌≡◌, ◌≢◌, ℕ, ◌<◌, ◌≤◌, false, List, None, Some, length, slice_index_or}
use Rattle.sfs_image.specs.Bytes.{part}
use Rattle.sfs_image.specs.Journal.{Head, head_of, head_bytes, numbers_of, numbers_fault}
use Rattle.sfs_image.specs.Laws.{record_at}
use Rattle.sfs_image.specs.Settled.{Body, Stamped, body_in, record_in, journal_slot, slot_count, settled, table_record}
use Rattle.sfs_dev.specs.Ranges.{Apart}
use Rattle.journal_one.specs.Job.{Job, fill_count, fill_piece, body_piece, table_piece, gate_piece, no_entry, IsJob}
use Rattle.journal_one.specs.Known.{IsWrittenIn, IsOpenIn}

-- the body of a commit: its stamp and its records
abbrev pub job_body : Job → Body
job_body job = record { stamp = job.stamp; entries = job.entries }

-- the fresh blocks and the body of a commit stand in an image
abbrev pub HasPieces : Job → List ℕ → Type 0
HasPieces job image = (k : ℕ) → k < fill_count job → IsWrittenIn (fill_piece job k) image

-- the body alone does, whatever stands in the fresh blocks
abbrev pub HasBodyPieces : Job → List ℕ → Type 0
HasBodyPieces job image = (k : ℕ) → k < 3 → IsWrittenIn (body_piece job k) image

-- The slot of a commit has its body in an image, with nothing wrong in it.
pub record HasBodyOf (job : Job) (image : List ℕ) : Type 0 where
  pub count : (head_of (part 0 4096 (journal_slot job.place.layout image job.place.slot))).count ≤ job.place.layout.inodes
  pub numbers : numbers_fault job.place.layout.inodes (numbers_of job.place.layout.inodes (journal_slot job.place.layout image job.place.slot)) ≡ None
  pub body : body_in job.place.layout.inodes (journal_slot job.place.layout image job.place.slot) ≡ job_body job

-- Where the body of a commit stands in an image, its slot has it.
abbrev pub BodiesAreRead : Type 0
BodiesAreRead = (job : Job) (image : List ℕ) → IsJob job → HasBodyPieces job image → HasBodyOf job image

-- the head of a commit, as it is before its gate is opened
abbrev pub job_head : Job → Head
job_head job = record { gate = false; count = length job.entries; stamp = job.stamp }

-- Where the body of a commit stands in an image, the first block of its slot has, from the count to the end of the commit stamp, the bytes of its
-- head.
abbrev pub HeadsAreSpelled : Type 0
HeadsAreSpelled = (job : Job) (image : List ℕ) → IsJob job → HasBodyPieces job image
    → part 512 16 (part 0 4096 (journal_slot job.place.layout image job.place.slot)) ≡ part 512 16 (head_bytes (job_head job))

-- A record of an open slot is settled where no other open slot has one with a commit stamp as great or greater.
abbrev pub OpenSlotsSettle : Type 0
OpenSlotsSettle = (job : Job) (image : List ℕ) (i : ℕ) (ours : Stamped (List ℕ)) → IsJob job → HasBodyPieces job image → IsOpenIn job.place image
    → record_in i (job_body job) ≡ Some ours
    → ((k : ℕ) (other : Stamped (List ℕ)) → k < slot_count job.place.layout → k ≢ job.place.slot
    → record_at job.place.layout image i k ≡ Some other → other.stamp < ours.stamp)
    → settled job.place.layout image i ≡ ours.value

-- No piece that fills a slot covers its gate.
abbrev pub PiecesLeaveTheGate : Type 0
PiecesLeaveTheGate = (job : Job) (k byte : ℕ) → IsJob job
    → Apart (fill_piece job k).at (length (fill_piece job k).bytes) (gate_piece job.place byte).at 1

-- A record that stands at its place is the table's.
abbrev pub PlacedRecordsAreInTheTable : Type 0
PlacedRecordsAreInTheTable = (job : Job) (image : List ℕ) (k : ℕ) → IsJob job → k < length job.entries → IsWrittenIn (table_piece job k) image
    → table_record job.place.layout image (slice_index_or job.entries k no_entry).inode ≡ (slice_index_or job.entries k no_entry).bytes
