-- Writes to an image, whole or torn: which bytes they may change, and what stands where they are made.
use Rattle.std.specs.Prelude.{◌≡◌, ◌≢◌, ◌⊎◌, ℕ, ◌+◌, ◌*◌, ◌<◌, ◌≤◌, true, false, All, List, length, take, drop, Option, None, Some}
use Rattle.sfs_image.specs.Bytes.{part}
use Rattle.sfs_image.specs.ImageOf.{IsGiver, InodePart, Transaction, part_given, given, with_opened, with_slot, HasBody, PointsToData}
use Rattle.sfs_image.specs.Journal.{head_of}
use Rattle.sfs_image.specs.Part.{Part, IsGathered, pointer_at}
use Rattle.sfs_image.specs.Settled.{Stamped, image_block, journal_slot, slot_byte, slot_count, table_byte, table_record}
use Rattle.sfs_image.specs.Super.{Layout, slot_blocks, data_start}

-- two lists of bytes are the same but for the n bytes from byte `at` on
pub record AgreesOutside (at n : ℕ) (old new : List ℕ) : Type 0 where
  pub before : take at new ≡ take at old
  pub behind : drop (at + n) new ≡ drop (at + n) old
  pub size : length new ≡ length old

-- m bytes from byte `from` on and n bytes from byte `at` on have none in common
abbrev pub LiesApart : ℕ → ℕ → ℕ → ℕ → Type 0
LiesApart from m at n = (from + m ≤ at) ⊎ (at + n ≤ from)

-- A transaction may come to the open ones: its commit stamp is none of theirs, and greater than that of each which gives an inode
-- that it gives too; and its parts are gathered from these blocks and point to data.
pub record MayOpen (layout : Layout) (opened : ℕ → Option Transaction) (one : Transaction) (store : ℕ → List ℕ) : Type 0 where
  pub own : (j : ℕ) (other : Transaction) → j < slot_count layout → opened j ≡ Some other → other.stamp ≢ one.stamp
  pub newer : (i j : ℕ) (other ours : Stamped Part) → j < slot_count layout → part_given i (opened j) ≡ Some other → part_given i (Some one) ≡ Some ours →
      other.stamp < ours.stamp
  pub gathered : All (λ (inner : InodePart). IsGathered store inner.part) one.parts
  pub pointers : All (λ (inner : InodePart). PointsToData layout inner.part) one.parts

-- Slot k is the oldest of its inodes: it has a lesser commit stamp than each other open slot which gives an inode that it gives too.
abbrev pub IsOldestOfItsInodes : Layout → (ℕ → Option Transaction) → ℕ → Type 0
IsOldestOfItsInodes layout opened k =
    (i j : ℕ) (other ours : Stamped Part) → j < slot_count layout → j ≢ k → part_given i (opened j) ≡ Some other → part_given i (opened k) ≡ Some ours →
    ours.stamp < other.stamp

-- A slot may be closed which is the oldest of its inodes, and which gives no inode alone whose record is not in the table.
pub record MayShut (layout : Layout) (opened : ℕ → Option Transaction) (k : ℕ) (image : List ℕ) : Type 0 where
  pub older : IsOldestOfItsInodes layout opened k
  pub table : (i : ℕ) (ours : Stamped Part) → i < layout.inodes → part_given i (opened k) ≡ Some ours → given layout (with_slot opened k None) i ≡ None →
      table_record layout image i ≡ ours.value.raw

-- the table has the record of each inode's part, with what the open slots give
abbrev pub IsFullTable : Layout → (ℕ → Option Transaction) → (ℕ → Part) → List ℕ → Type 0
IsFullTable layout opened parts image = (i : ℕ) → i < layout.inodes → table_record layout image i ≡ (with_opened layout opened parts i).raw

-- the table has, of each inode that an open slot gives its part, the record of that part
abbrev pub HasNewestRecords : Layout → (ℕ → Option Transaction) → List ℕ → Type 0
HasNewestRecords layout opened image =
    (i k : ℕ) (ours : Stamped Part) → i < layout.inodes → IsGiver layout opened i k ours → table_record layout image i ≡ ours.value.raw

-- the table has the records of a transaction's parts
abbrev pub HasRecordsOf : Layout → Transaction → List ℕ → Type 0
HasRecordsOf layout one image = All (λ (inner : InodePart). table_record layout image inner.inode ≡ inner.part.raw) one.parts

-- A write to the data area, apart from the blocks of all parts.
pub record WritesData (layout : Layout) (opened : ℕ → Option Transaction) (parts : ℕ → Part) (old new : List ℕ) : Type 0 where
  pub at : ℕ
  pub n : ℕ
  pub written : AgreesOutside at n old new
  pub behind : 4096 * data_start layout ≤ at
  pub apart : (i place : ℕ) → i < layout.inodes → pointer_at (with_opened layout opened parts i) place ≢ 0
      → LiesApart (4096 * pointer_at (with_opened layout opened parts i) place) 4096 at n

-- A write of n bytes within the table's records of so many inodes, from a first one on, each of which an open slot has.
pub record WritesRecords (layout : Layout) (opened : ℕ → Option Transaction) (first count : ℕ) (old new : List ℕ) : Type 0 where
  pub from : ℕ
  pub n : ℕ
  pub written : AgreesOutside (table_byte layout first + from) n old new
  pub within : first + count ≤ layout.inodes
  pub fits : from + n ≤ 512 * count
  pub taken : (i : ℕ) → first ≤ i → i < first + count → given layout opened i ≢ None

-- A write of n bytes behind the gate of slot k, which is closed.
pub record WritesBody (layout : Layout) (opened : ℕ → Option Transaction) (k : ℕ) (old new : List ℕ) : Type 0 where
  pub from : ℕ
  pub n : ℕ
  pub written : AgreesOutside (slot_byte layout k + from) n old new
  pub within : k < slot_count layout
  pub fits : from + n ≤ 4096 * slot_blocks layout.inodes
  pub behind : 1 ≤ from
  pub shut : opened k ≡ None

-- A write of one byte at the gate of slot k leaves the gate what it was, as a torn one may.
pub record LeavesGate (layout : Layout) (k : ℕ) (old new : List ℕ) : Type 0 where
  pub within : k < slot_count layout
  pub written : AgreesOutside (slot_byte layout k) 1 old new
  pub gate : (head_of (part 0 4096 (journal_slot layout new k))).gate ≡ (head_of (part 0 4096 (journal_slot layout old k))).gate

-- A write of one byte at the gate of slot k, which is closed and has the whole body of a transaction, opens it.
pub record OpensGate (layout : Layout) (opened : ℕ → Option Transaction) (k : ℕ) (one : Transaction) (old new : List ℕ) : Type 0 where
  pub within : k < slot_count layout
  pub written : AgreesOutside (slot_byte layout k) 1 old new
  pub shut : opened k ≡ None
  pub whole : HasBody layout.inodes one (journal_slot layout old k)
  pub may : MayOpen layout opened one (image_block old)
  pub gate : (head_of (part 0 4096 (journal_slot layout new k))).gate ≡ true

-- A write of one byte at the gate of slot k shuts it.
pub record ShutsGate (layout : Layout) (opened : ℕ → Option Transaction) (k : ℕ) (old new : List ℕ) : Type 0 where
  pub within : k < slot_count layout
  pub written : AgreesOutside (slot_byte layout k) 1 old new
  pub may : MayShut layout opened k old
  pub gate : (head_of (part 0 4096 (journal_slot layout new k))).gate ≡ false
