-- Which parts an image stands for, whatever journal slots are open in it.
use Rattle.std.specs.Prelude.{◌≡◌, ◌≢◌, ℕ, ◌<◌, ◌≤◌, ◌==◌, true, false, All, List, map, Option, None, Some, option_map, unwrap_or, if◌then◌else◌, length, replicate, ◌/◌, Contains}
use Rattle.std.specs.List.{range_with_len, find}
use Rattle.sfs_image.specs.Bytes.{part, zeros}
use Rattle.sfs_image.specs.Inode.{Inode, inode_bytes}
use Rattle.sfs_image.specs.Slot.{kind_byte}
use Rattle.sfs_base.specs.declared.numbers.Kind.TheVariants.{Directory}
use Rattle.sfs_image.specs.Journal.{head_of, numbers_of, numbers_fault}
use Rattle.sfs_image.specs.Part.{Part, part_of, IsGathered, pointer_at, content_at}
use Rattle.sfs_image.specs.Seen.{FILE_BLOCKS, PLACES}
use Rattle.sfs_image.specs.Settled.{Body, Stamped, newest, body_in, image_block, journal_slot, layout_of, slot_count, super_fault_of, table_record, journal_fault_of, parts_of}
use Rattle.sfs_image.specs.Super.{Layout, data_start, IsLayout, super_bytes}

-- an inode and its part
pub record InodePart : Type 0 where
  pub inode : ℕ
  pub part : Part

-- What a journal slot's body stands for: a commit stamp, and inodes with the parts that they have from this commit on.
pub record Transaction : Type 0 where
  pub stamp : ℕ
  pub parts : List InodePart

-- the body of a transaction, which has the records of its parts
abbrev pub transaction_body : Transaction → Body
transaction_body one = record { stamp = one.stamp; entries = map (λ own. record { inode = own.inode; bytes = own.part.raw }) one.parts }

-- the part that a slot's transaction gives inode i, under the transaction's commit stamp
abbrev pub part_given : ℕ → Option Transaction → Option (Stamped Part)
part_given i None = None
part_given i (Some one) = option_map (λ own. record { stamp = one.stamp; value = own.part }) (find (λ own. own.inode == i) one.parts)

-- the part that the open slots of a disk give inode i, that under the greatest commit stamp; each slot by its number is open
-- with a transaction or is closed
abbrev pub given : Layout → (ℕ → Option Transaction) → ℕ → Option Part
given layout opened i = option_map (λ newest. newest.value) (newest (map (λ k. part_given i (opened k)) (range_with_len 0 (slot_count layout))))

-- open slot k gives inode i its part: its commit stamp is greater than that of each other open slot that gives it one
pub record IsGiver (layout : Layout) (opened : ℕ → Option Transaction) (i k : ℕ) (ours : Stamped Part) : Type 0 where
  pub within : k < slot_count layout
  pub gives : part_given i (opened k) ≡ Some ours
  pub newest : (j : ℕ) (other : Stamped Part) → j < slot_count layout → j ≢ k → part_given i (opened j) ≡ Some other → other.stamp < ours.stamp

-- the part of inode i with what the open slots give
abbrev pub with_opened : Layout → (ℕ → Option Transaction) → (ℕ → Part) → ℕ → Part
with_opened layout opened parts i = unwrap_or (given layout opened i) (parts i)

-- a slot's gate is closed
abbrev pub IsShut : List ℕ → Type 0
IsShut slot = (head_of (part 0 4096 slot)).gate ≡ false

-- behind a slot's gate stands the body of a transaction, with nothing wrong in it
pub record HasBody (inodes : ℕ) (one : Transaction) (slot : List ℕ) : Type 0 where
  pub count : (head_of (part 0 4096 slot)).count ≤ inodes
  pub numbers : numbers_fault inodes (numbers_of inodes slot) ≡ None
  pub body : body_in inodes slot ≡ transaction_body one

-- a slot is open and has the body of a transaction
pub record IsOpenWith (inodes : ℕ) (one : Transaction) (slot : List ℕ) : Type 0 where
  pub gate : (head_of (part 0 4096 slot)).gate ≡ true
  pub whole : HasBody inodes one slot

-- a slot is closed, or open with a transaction
abbrev pub IsSlotOf : ℕ → Option Transaction → List ℕ → Type 0
IsSlotOf inodes None slot = IsShut slot
IsSlotOf inodes (Some one) slot = IsOpenWith inodes one slot

-- what a slot may be: closed, or with the whole body of a transaction, whatever its gate says
abbrev pub MayBeSlotOf : ℕ → Option Transaction → List ℕ → Type 0
MayBeSlotOf inodes None slot = IsShut slot
MayBeSlotOf inodes (Some one) slot = HasBody inodes one slot

-- of the transactions that may be open, those of the slots whose gates are open in an image
abbrev pub opened_among : Layout → (ℕ → Option Transaction) → List ℕ → ℕ → Option Transaction
opened_among layout may image k = if (head_of (part 0 4096 (journal_slot layout image k))).gate then may k else None

-- no two open slots have one commit stamp
abbrev pub HaveOwnStamps : Layout → (ℕ → Option Transaction) → Type 0
HaveOwnStamps layout opened =
    (j k : ℕ) (one other : Transaction) → j < slot_count layout → k < slot_count layout → opened j ≡ Some one → opened k ≡ Some other →
    one.stamp ≡ other.stamp → j ≡ k

-- each pointer of a part names a block of the data area
abbrev pub PointsToData : Layout → Part → Type 0
PointsToData layout part = (place : ℕ) → pointer_at part place ≢ 0 → (data_start layout ≤ pointer_at part place) × (pointer_at part place < layout.blocks)

-- An image stands for these parts with those slots open: its superblock is that of the layout and each slot is closed or has
-- its transaction; the table has the record of each inode that no open slot has; and what the pointers of each part reach,
-- with the open transactions, is there, in the data area.
pub record IsImageOf (layout : Layout) (opened : ℕ → Option Transaction) (parts : ℕ → Part) (image : List ℕ) : Type 0 where
  pub sound : super_fault_of image ≡ None
  pub divided : layout_of image ≡ layout
  pub slots : (k : ℕ) → k < slot_count layout → IsSlotOf layout.inodes (opened k) (journal_slot layout image k)
  pub stamps : HaveOwnStamps layout opened
  pub table : (i : ℕ) → i < layout.inodes → given layout opened i ≡ None → table_record layout image i ≡ (parts i).raw
  pub gathered : (i : ℕ) → i < layout.inodes → IsGathered (image_block image) (with_opened layout opened parts i)
  pub pointers : (i : ℕ) → i < layout.inodes → PointsToData layout (with_opened layout opened parts i)

-- the transaction of an open slot of an image: its body's inodes, with the parts that their records gather there
abbrev pub transaction_in : Layout → List ℕ → ℕ → Option Transaction
transaction_in layout image k =
    let slot = journal_slot layout image k in
    let body = body_in layout.inodes slot in
    if (head_of (part 0 4096 slot)).gate
    then Some
    (record { stamp = body.stamp; parts = map (λ entry. record { inode = entry.inode; part = part_of (image_block image) entry.bytes }) body.entries })
    else None

-- the parts that the records of the inode table gather in an image
abbrev pub table_parts : Layout → List ℕ → ℕ → Part
table_parts layout image i = part_of (image_block image) (table_record layout image i)

-- Nothing is wrong in an image's superblock, which has this layout, nor in its journals, and the pointers of its settled parts name
-- blocks of the data area.
pub record IsAccepted (layout : Layout) (image : List ℕ) : Type 0 where
  pub super : super_fault_of image ≡ None
  pub divided : layout_of image ≡ layout
  pub journals : journal_fault_of layout image ≡ None
  pub pointers : (i : ℕ) → i < layout.inodes → PointsToData layout (parts_of layout image i)

-- the inode of an empty directory
abbrev pub empty_directory : Inode
empty_directory = record { kind = kind_byte Directory; links = 2; size = 0; direct = replicate 108 0; indirect = replicate 16 0 }

-- An image that is just made: the superblock of a layout, closed slots, the root as an empty directory and free inodes.
pub record IsJustMade (layout : Layout) (image : List ℕ) : Type 0 where
  pub fits : IsLayout (length image / 4096) layout
  pub super : image_block image 0 ≡ super_bytes layout
  pub shut : (k : ℕ) → k < slot_count layout → IsShut (journal_slot layout image k)
  pub root : table_record layout image 0 ≡ inode_bytes empty_directory
  pub free : (i : ℕ) → i < layout.inodes → i ≢ 0 → table_record layout image i ≡ zeros 512

-- the slots of a disk with another transaction, or none, in one of them
abbrev pub with_slot : (ℕ → Option Transaction) → ℕ → Option Transaction → ℕ → Option Transaction
with_slot opened k one j = if j == k then one else opened j

-- a block and the bytes that are written to it
pub record FreshBlock : Type 0 where
  pub block : ℕ
  pub bytes : List ℕ

-- these blocks stand in a store
abbrev pub StandIn : (ℕ → List ℕ) → List FreshBlock → Type 0
StandIn store fresh = All (λ one. store one.block ≡ one.bytes) fresh

-- In each store that has the old part and the fresh blocks the new part's record gathers the new part.
abbrev pub TurnsInto : List FreshBlock → Part → Part → Type 0
TurnsInto fresh old new = (store : ℕ → List ℕ) → StandIn store fresh → IsGathered store old → IsGathered store new

-- Where the block of a pointer comes from that a new part has: there is none, it is fresh, or it stood at a place of the old part.
pub data ComesFrom (fresh : List FreshBlock) (old : Part) : ℕ → List ℕ → Type 0 where
  hole : ComesFrom fresh old 0 (zeros 4096)
  written : (one : FreshBlock) → Contains fresh one → one.block ≢ 0 → ComesFrom fresh old one.block one.bytes
  kept : (place : ℕ) → place < PLACES → pointer_at old place ≢ 0 → ComesFrom fresh old (pointer_at old place) (content_at old place)

-- A new part is made of fresh blocks and of an old part: it has all its places, and what stands at each comes from them.
pub record IsMadeOf (fresh : List FreshBlock) (old new : Part) : Type 0 where
  pub tables : length new.tables ≡ 16
  pub blocks : length new.blocks ≡ FILE_BLOCKS
  pub comes : (place : ℕ) → place < PLACES → ComesFrom fresh old (pointer_at new place) (content_at new place)
