-- The laws of images, each of which a function of the module laws proves.
use Rattle.std.specs.Prelude.{◌≡◌, ◌≢◌, ◌⊎◌, ℕ, ◌+◌, ◌*◌, ◌/◌, ◌%◌, ◌<◌, ◌≤◌, ◌^◌, List, [], ◌∷◌, map, Option, None, Some, if◌then◌else◌, true, false}
use Rattle.sfs_image.specs.Bytes.{part}
use Rattle.sfs_image.specs.ImageOf.{MayBeSlotOf, opened_among, IsSlotOf, IsAccepted, transaction_in, table_parts, Transaction, with_opened, with_slot, IsImageOf, FreshBlock, StandIn, TurnsInto, empty_directory, IsJustMade, IsMadeOf}
use Rattle.sfs_image.specs.ImageWrites.{HasNewestRecords, IsFullTable, HasRecordsOf, IsOldestOfItsInodes, MayShut, LeavesGate, WritesData, WritesRecords, WritesBody, OpensGate, ShutsGate}
use Rattle.sfs_image.specs.Rules.{breaks_bytes_rule}
use Rattle.sfs_image.specs.Journal.{Entry, head_of, entries_of, numbers_of, numbers_fault, number_byte, record_byte, records_start, AreEntries, HasEntries, HasRangesOf}
use Rattle.sfs_image.specs.Part.{Part, IsGathered, inode_in, is_free_part}
use Rattle.sfs_image.specs.Settled.{SlotFault, slot_fault_of, image_block, Stamped, body_in, record_in, journal_slot, slot_byte, slot_count, table_byte, table_record, settled, parts_of, super_fault_of, journal_fault_of}
use Rattle.sfs_image.specs.Super.{Layout, slot_blocks, slot_start, table_start, data_start}

-- The parts of a disk lie one behind another: within a slot the numbers of all inodes behind the head's block, and their records
-- behind those; the slots behind the superblock; the table behind the slots; the data behind the table.
pub record IsDivided (layout : Layout) : Type 0 where
  pub numbers : (k : ℕ) → k < layout.inodes → number_byte k + 4 ≤ 4096 * records_start layout.inodes
  pub records : (k : ℕ) → k < layout.inodes → record_byte layout.inodes k + 512 ≤ 4096 * slot_blocks layout.inodes
  pub first_slot : (k : ℕ) → 4096 ≤ slot_byte layout k
  pub slots : (j k : ℕ) → j < k → slot_byte layout j + 4096 * slot_blocks layout.inodes ≤ slot_byte layout k
  pub last_slot : (k : ℕ) → k < slot_count layout → slot_byte layout k + 4096 * slot_blocks layout.inodes ≤ 4096 * table_start layout
  pub table : (i : ℕ) → i < layout.inodes → table_byte layout i + 512 ≤ 4096 * data_start layout

-- Each layout divides a disk.
abbrev pub LayoutsDivide : Type 0
LayoutsDivide = (layout : Layout) → IsDivided layout

-- Slot s of core c is number c * slots + s: it begins where the layout says, and its number gives the core and the slot again.
pub record IsNumberOf (layout : Layout) (core slot k : ℕ) : Type 0 where
  pub begins : slot_byte layout k ≡ 4096 * slot_start layout core slot
  pub core_again : k / layout.slots ≡ core
  pub slot_again : k % layout.slots ≡ slot

-- Each slot of a core has its number.
abbrev pub SlotsAreNumbered : Type 0
SlotsAreNumbered = (layout : Layout) (core slot : ℕ) → slot < layout.slots → IsNumberOf layout core slot (core * layout.slots + slot)

-- a disk of 1,024 blocks with 64 inodes and two cores, each with three slots of 10 blocks
abbrev pub two_rings : Layout
two_rings = record { blocks = 1024; inodes = 64; cores = 2; slots = 3 }

-- On that disk the slots of core 0 lie behind the superblock, those of core 1 behind them, each core's in their order; then the table and
-- the data. So of an image.
pub record RingsLieCoreByCore : Type 0 where
  pub first_core : map (slot_start two_rings 0) (0 ∷ 1 ∷ 2 ∷ []) ≡ 1 ∷ 11 ∷ 21 ∷ []
  pub second_core : map (slot_start two_rings 1) (0 ∷ 1 ∷ 2 ∷ []) ≡ 31 ∷ 41 ∷ 51 ∷ []
  pub table : table_start two_rings ≡ 61
  pub contents : data_start two_rings ≡ 69
  pub count : slot_count two_rings ≡ 6
  pub slots : (image : List ℕ) → map (journal_slot two_rings image) (0 ∷ 1 ∷ 2 ∷ 3 ∷ 4 ∷ 5 ∷ [])
      ≡ map (λ block. part (4096 * block) 40960 image) (1 ∷ 11 ∷ 21 ∷ 31 ∷ 41 ∷ 51 ∷ [])

-- what a slot is read as where these entries stand in it
pub record AreReadAgain (inodes : ℕ) (entries : List Entry) (slot : List ℕ) : Type 0 where
  pub again : entries_of inodes slot ≡ entries
  pub count : (head_of (part 0 4096 slot)).count ≤ inodes
  pub sound : numbers_fault inodes (numbers_of inodes slot) ≡ None

-- Entries that stand in a slot are read again from it, and nothing is wrong in them.
abbrev pub EntriesAreReadAgain : Type 0
EntriesAreReadAgain = (inodes : ℕ) (entries : List Entry) (slot : List ℕ) → inodes ≤ 2 ^ 32 → AreEntries inodes entries → HasEntries inodes entries slot
    → AreReadAgain inodes entries slot

-- Entries whose numbers and records stand in two ranges of a slot have each its own at its place.
abbrev pub RangesHaveEntries : Type 0
RangesHaveEntries = (inodes : ℕ) (entries : List Entry) (slot : List ℕ) → HasRangesOf inodes entries slot → HasEntries inodes entries slot

-- the record of inode i in the slot of a number, if the slot is open and has one, under the slot's commit stamp
abbrev pub record_at : Layout → List ℕ → ℕ → ℕ → Option (Stamped (List ℕ))
record_at layout image i k =
    let slot = journal_slot layout image k in
    if (head_of (part 0 4096 slot)).gate then record_in i (body_in layout.inodes slot) else None

-- The settled record of an inode is that of the open slot whose commit stamp is greater than that of each other with one.
abbrev pub SettledIsNewest : Type 0
SettledIsNewest = (layout : Layout) (image : List ℕ) (i k : ℕ) (ours : Stamped (List ℕ)) → k < slot_count layout → record_at layout image i k ≡ Some ours
    → ((j : ℕ) (other : Stamped (List ℕ)) → j < slot_count layout → j ≢ k → record_at layout image i j ≡ Some other → other.stamp < ours.stamp)
    → settled layout image i ≡ ours.value

-- The settled record of an inode that no open slot has is the table's.
abbrev pub SettledIsTables : Type 0
SettledIsTables = (layout : Layout) (image : List ℕ) (i : ℕ) → ((k : ℕ) → k < slot_count layout → record_at layout image i k ≡ None)
    → settled layout image i ≡ table_record layout image i

-- the first slot with a wrong place, and that place
pub record IsFirstFault (layout : Layout) (image : List ℕ) (k : ℕ) (fault : SlotFault) : Type 0 where
  pub within : k < slot_count layout
  pub here : slot_fault_of layout image k ≡ Some fault
  pub before : (j : ℕ) → j < k → slot_fault_of layout image j ≡ None

-- The fault of an image's journals is that of the first slot that has one.
abbrev pub JournalFaultsAreFirst : Type 0
JournalFaultsAreFirst = (layout : Layout) (image : List ℕ) (fault : SlotFault) → journal_fault_of layout image ≡ Some fault
    → (k : ℕ) × IsFirstFault layout image k fault

-- what is read of an image that stands for parts: nothing wrong in its superblock and its journals, and those settled parts
pub record IsReadAs (layout : Layout) (opened : ℕ → Option Transaction) (parts : ℕ → Part) (image : List ℕ) : Type 0 where
  pub super : super_fault_of image ≡ None
  pub journals : journal_fault_of layout image ≡ None
  pub settles : (i : ℕ) → i < layout.inodes → parts_of layout image i ≡ with_opened layout opened parts i

-- An image that stands for parts is read as these, with what its open slots give, whichever slots are open.
abbrev pub ImagesStandForParts : Type 0
ImagesStandForParts = (layout : Layout) (opened : ℕ → Option Transaction) (parts : ℕ → Part) (image : List ℕ) → IsImageOf layout opened parts image
    → IsReadAs layout opened parts image

-- Where each slot may be that of a transaction, each is, of those whose gates are open.
abbrev pub GatesSayWhichAreOpen : Type 0
GatesSayWhichAreOpen =
    (layout : Layout) (may : ℕ → Option Transaction) (image : List ℕ) (k : ℕ) → MayBeSlotOf layout.inodes (may k) (journal_slot layout image k)
    → IsSlotOf layout.inodes (opened_among layout may image k) (journal_slot layout image k)

-- An image in which nothing is wrong up to where its pointers point stands for the parts of its table, with its open slots open.
abbrev pub AcceptedImagesStand : Type 0
AcceptedImagesStand =
    (layout : Layout) (image : List ℕ) → IsAccepted layout image → IsImageOf layout (transaction_in layout image) (table_parts layout image) image

-- what an image that is just made shows: it is accepted, its settled records are the table's, inode 0 is an empty directory and the
-- others are free, and none breaks a rule on bytes and pointers
pub record ShowsRootAlone (layout : Layout) (image : List ℕ) : Type 0 where
  pub accepted : IsAccepted layout image
  pub settles : (i : ℕ) → settled layout image i ≡ table_record layout image i
  pub root : inode_in (parts_of layout image 0) ≡ empty_directory
  pub free : (i : ℕ) → i < layout.inodes → i ≢ 0 → is_free_part (parts_of layout image i) ≡ true
  pub rules : (rule i : ℕ) → i < layout.inodes → breaks_bytes_rule rule layout (parts_of layout image) i ≡ false

-- An image that is just made shows the root alone.
abbrev pub JustMadeShowsRoot : Type 0
JustMadeShowsRoot = (layout : Layout) (image : List ℕ) → IsJustMade layout image → ShowsRootAlone layout image

-- A write to the data area, whole or torn, apart from the blocks of all parts keeps what an image stands for.
abbrev pub DataWritesKeep : Type 0
DataWritesKeep = (layout : Layout) (opened : ℕ → Option Transaction) (parts : ℕ → Part) (old new : List ℕ) → IsImageOf layout opened parts old
    → WritesData layout opened parts old new → IsImageOf layout opened parts new

-- A write within the table's records of neighbouring inodes, each of which an open slot has, whole or torn, keeps what an image stands for.
abbrev pub TableWritesKeep : Type 0
TableWritesKeep = (layout : Layout) (opened : ℕ → Option Transaction) (parts : ℕ → Part) (first count : ℕ) (old new : List ℕ)
    → IsImageOf layout opened parts old → WritesRecords layout opened first count old new → IsImageOf layout opened parts new

-- A write behind the gate of a closed slot, whole or torn, keeps what an image stands for.
abbrev pub BodyWritesKeep : Type 0
BodyWritesKeep = (layout : Layout) (opened : ℕ → Option Transaction) (parts : ℕ → Part) (k : ℕ) (old new : List ℕ) → IsImageOf layout opened parts old
    → WritesBody layout opened k old new → IsImageOf layout opened parts new

-- A write at a gate that leaves the gate what it was keeps what an image stands for.
abbrev pub LeftGatesKeep : Type 0
LeftGatesKeep = (layout : Layout) (opened : ℕ → Option Transaction) (parts : ℕ → Part) (k : ℕ) (old new : List ℕ) → IsImageOf layout opened parts old
    → LeavesGate layout k old new → IsImageOf layout opened parts new

-- Fresh blocks turn an old part into a new one that is made of them and of the old part.
abbrev pub MadePartsTurn : Type 0
MadePartsTurn = (fresh : List FreshBlock) (old new : Part) → IsMadeOf fresh old new → TurnsInto fresh old new

-- Where fresh blocks stand in an image that turn the part of an inode into a new one, the image has all that the new part reaches.
abbrev pub FreshBlocksMakeParts : Type 0
FreshBlocksMakeParts = (layout : Layout) (opened : ℕ → Option Transaction) (parts : ℕ → Part) (image : List ℕ) (i : ℕ) (fresh : List FreshBlock) (new : Part)
    → IsImageOf layout opened parts image → i < layout.inodes → TurnsInto fresh (with_opened layout opened parts i) new → StandIn (image_block image) fresh
    → IsGathered (image_block image) new

-- A gate that opens over a whole body adds the body's transaction.
abbrev pub OpenedGatesAdd : Type 0
OpenedGatesAdd = (layout : Layout) (opened : ℕ → Option Transaction) (parts : ℕ → Part) (k : ℕ) (one : Transaction) (old new : List ℕ)
    → IsImageOf layout opened parts old
    → OpensGate layout opened k one old new → IsImageOf layout (with_slot opened k (Some one)) parts new

-- what stands once a gate has shut: the others are open, and each inode has the part that it had
pub record IsShutAfter (layout : Layout) (opened : ℕ → Option Transaction) (parts : ℕ → Part) (k : ℕ) (new : List ℕ) : Type 0 where
  pub stands : IsImageOf layout (with_slot opened k None) (with_opened layout opened parts) new
  pub same : (i : ℕ) → with_opened layout (with_slot opened k None) (with_opened layout opened parts) i ≡ with_opened layout opened parts i

-- A gate that shuts, once the table has what its slot alone gives and no older slot stays open for it, changes no part.
abbrev pub ShutGatesKeep : Type 0
ShutGatesKeep = (layout : Layout) (opened : ℕ → Option Transaction) (parts : ℕ → Part) (k : ℕ) (old new : List ℕ) → IsImageOf layout opened parts old
    → ShutsGate layout opened k old new
    → IsShutAfter layout opened parts k new

-- A slot that is the oldest of its inodes may be closed where the table has the records of all parts, or those of its own.
abbrev pub OldestOfItsInodesMayShut : Type 0
OldestOfItsInodesMayShut = (layout : Layout) (opened : ℕ → Option Transaction) (parts : ℕ → Part) (k : ℕ) (one : Transaction) (image : List ℕ)
    → k < slot_count layout → opened k ≡ Some one → IsOldestOfItsInodes layout opened k → (IsFullTable layout opened parts image) ⊎ (HasRecordsOf layout one image)
    → MayShut layout opened k image

-- A table that has the newest records of the open slots has the records of all parts.
abbrev pub NewestRecordsFill : Type 0
NewestRecordsFill = (layout : Layout) (opened : ℕ → Option Transaction) (parts : ℕ → Part) (image : List ℕ) → IsImageOf layout opened parts image
    → HasNewestRecords layout opened image → IsFullTable layout opened parts image

-- A table that has the records of all parts has them once a gate has shut.
abbrev pub TablesStayFull : Type 0
TablesStayFull = (layout : Layout) (opened : ℕ → Option Transaction) (parts : ℕ → Part) (k : ℕ) (old new : List ℕ) → IsImageOf layout opened parts old
    → ShutsGate layout opened k old new → IsFullTable layout opened parts old
    → IsFullTable layout (with_slot opened k None) (with_opened layout opened parts) new
