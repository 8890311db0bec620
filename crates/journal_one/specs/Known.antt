-- What is known of a slot's own bytes while others write elsewhere. Of a disk that does not tell what a read gives nothing is claimed.
use Rattle.std.specs.Prelude.{◌≡◌, ℕ, ◌<◌, true, List, length, Some}
use Rattle.sfs_image.specs.Bytes.{part}
use Rattle.sfs_image.specs.ImageOf.{IsShut}
use Rattle.sfs_image.specs.Journal.{head_of}
use Rattle.sfs_image.specs.Settled.{journal_slot}
use Rattle.sfs_dev.specs.Disk.{View, images}
use Rattle.journal_one.specs.Job.{Place, Job, Piece, fill_count, fill_piece, body_piece, table_piece, HaveOwnBlocks}

-- what a read gives has P, where it is told
abbrev pub Reads : View → (List ℕ → Type 0) → Type 0
Reads disk P = (content : List ℕ) → disk.content ≡ Some content → P content

-- each image of a disk that tells what a read gives has P
abbrev pub EachLeft : View → (List ℕ → Type 0) → Type 0
EachLeft disk P = (content : List ℕ) → disk.content ≡ Some content → (image : List ℕ) → images disk image → P image

-- bytes stand at their place
abbrev pub IsWrittenIn : Piece → List ℕ → Type 0
IsWrittenIn piece image = part piece.at (length piece.bytes) image ≡ piece.bytes

-- the slot's gate is closed, and is open, in an image
abbrev pub IsShutIn : Place → List ℕ → Type 0
IsShutIn place image = IsShut (journal_slot place.layout image place.slot)

abbrev pub IsOpenIn : Place → List ℕ → Type 0
IsOpenIn place image = (head_of (part 0 4096 (journal_slot place.layout image place.slot))).gate ≡ true

-- of the first n pieces each is written: it stands in what a read gives
abbrev pub AreWritten : ℕ → (ℕ → Piece) → View → Type 0
AreWritten n piece disk = (k : ℕ) → k < n → Reads disk (IsWrittenIn (piece k))

-- of the first n pieces each is on the disk: it stands in every image
abbrev pub AreOnDisk : ℕ → (ℕ → Piece) → View → Type 0
AreOnDisk n piece disk = (k : ℕ) → k < n → EachLeft disk (IsWrittenIn (piece k))

-- the fresh blocks and the body of a commit are on the disk
abbrev pub AreFilled : Job → View → Type 0
AreFilled job disk = AreOnDisk (fill_count job) (fill_piece job) disk

-- the body of a commit is on the disk, whatever has become of its fresh blocks
abbrev pub IsBodyOnDisk : Job → View → Type 0
IsBodyOnDisk job disk = AreOnDisk 3 (body_piece job) disk

-- Idle: the gate is closed in every image.
abbrev pub IsIdle : Place → View → Type 0
IsIdle place disk = EachLeft disk (IsShutIn place)

-- Filling, with some pieces written: the gate is closed in every image, no block is written twice, and each that was has its bytes.
pub record IsFilling (job : Job) (done : ℕ) (disk : View) : Type 0 where
  pub own : HaveOwnBlocks job.fresh
  pub shut : EachLeft disk (IsShutIn job.place)
  pub written : AreWritten done (fill_piece job) disk

-- Filled: all pieces are written.
abbrev pub IsFilled : Job → View → Type 0
IsFilled job disk = IsFilling job (fill_count job) disk

-- Sealed: the gate is closed in every image, and behind it the fresh blocks and the body are on the disk.
pub record IsSealed (job : Job) (disk : View) : Type 0 where
  pub shut : EachLeft disk (IsShutIn job.place)
  pub filled : AreFilled job disk

-- Opened: the gate is open in what a read gives, and any byte in an image.
pub record IsOpened (job : Job) (disk : View) : Type 0 where
  pub opened : Reads disk (IsOpenIn job.place)
  pub filled : AreFilled job disk

-- Durable, with some records placed: the gate is open in every image. From here on nothing is said of the fresh blocks: a later commit may have
-- given them up, and another one may have written there, while the slot is open.
pub record IsDurable (job : Job) (done : ℕ) (disk : View) : Type 0 where
  pub opened : EachLeft disk (IsOpenIn job.place)
  pub body : IsBodyOnDisk job disk
  pub placed : AreWritten done (table_piece job) disk

-- Placed: all records are placed.
abbrev pub AreAllPlaced : Job → View → Type 0
AreAllPlaced job disk = IsDurable job (length job.entries) disk

-- Copied: the records are on the disk, in the table too.
pub record IsCopied (job : Job) (disk : View) : Type 0 where
  pub opened : EachLeft disk (IsOpenIn job.place)
  pub body : IsBodyOnDisk job disk
  pub copied : AreOnDisk (length job.entries) (table_piece job) disk

-- Closing: the gate is closed in what a read gives, and any byte in an image.
pub record IsClosing (job : Job) (disk : View) : Type 0 where
  pub shut : Reads disk (IsShutIn job.place)
  pub body : IsBodyOnDisk job disk
  pub copied : AreOnDisk (length job.entries) (table_piece job) disk

-- Closed: the slot is idle, and the table has the records.
pub record IsEnded (job : Job) (disk : View) : Type 0 where
  pub idle : IsIdle job.place disk
  pub copied : AreOnDisk (length job.entries) (table_piece job) disk

-- After a close that failed: the body is on the disk, and where the gate is closed the table has the records.
pub record IsBetween (job : Job) (disk : View) : Type 0 where
  pub body : IsBodyOnDisk job disk
  pub copied : (k : ℕ) → k < length job.entries → EachLeft disk (λ image. IsShutIn job.place image → IsWrittenIn (table_piece job k) image)
