-- What an image settles: of each inode the record of the open slot with the greatest commit stamp that has one, else the one in
-- the inode table; and the faults that leave nothing settled.
use Rattle.std.specs.Prelude.{ℕ, ◌+◌, ◌*◌, ◌/◌, ◌%◌, ◌==◌, nat_lt, List, [], ◌∷◌, length, map, Option, None, Some, option_map, unwrap_or, if◌then◌else◌}
use Rattle.std.specs.List.{range_with_len, flat_map, find}
use Rattle.sfs_image.specs.Bytes.{part, first_of}
use Rattle.sfs_image.specs.Journal.{Entry, head_of, entries_of, journal_fault}
use Rattle.sfs_image.specs.Part.{Part, part_of}
use Rattle.sfs_image.specs.Super.{Layout, slot_blocks, slot_start, table_start, super_of, super_fault}

-- block p of an image
abbrev pub image_block : List ℕ → ℕ → List ℕ
image_block image p = part (4096 * p) 4096 image

-- the layout in an image's superblock
abbrev pub layout_of : List ℕ → Layout
layout_of image = super_of (image_block image 0)

-- the first wrong place of an image's superblock, on a disk of the image's blocks
abbrev pub super_fault_of : List ℕ → Option ℕ
super_fault_of image = super_fault (length image / 4096) (image_block image 0)

-- how many journal slots a disk has. Slot s of core c is number c * slots + s of them.
abbrev pub slot_count : Layout → ℕ
slot_count layout = layout.cores * layout.slots

-- the byte at which the journal slot of a number begins
abbrev pub slot_byte : Layout → ℕ → ℕ
slot_byte layout k = 4096 * slot_start layout 0 k

-- the bytes of the journal slot of a number
abbrev pub journal_slot : Layout → List ℕ → ℕ → List ℕ
journal_slot layout image k = part (slot_byte layout k) (4096 * slot_blocks layout.inodes) image

-- what stands behind a slot's gate: the commit stamp, and inodes with their records
pub record Body : Type 0 where
  pub stamp : ℕ
  pub entries : List Entry

-- the body in a slot
abbrev pub body_in : ℕ → List ℕ → Body
body_in inodes slot = record { stamp = (head_of (part 0 4096 slot)).stamp; entries = entries_of inodes slot }

-- the body of a slot if it is open
abbrev pub open_body : ℕ → List ℕ → List Body
open_body inodes slot = if (head_of (part 0 4096 slot)).gate then body_in inodes slot ∷ [] else []

-- the bodies of the open slots among the first n, by core and then slot
abbrev pub open_below : Layout → List ℕ → ℕ → List Body
open_below layout image n = flat_map (λ k. open_body layout.inodes (journal_slot layout image k)) (range_with_len 0 n)

-- the bodies of the open slots of an image
abbrev pub open_bodies : Layout → List ℕ → List Body
open_bodies layout image = open_below layout image (slot_count layout)

-- something under a commit stamp
pub record Stamped (A : Type 0) : Type 0 where
  pub stamp : ℕ
  pub value : A

-- what has the greater stamp
abbrev pub newer : {A : Type 0} → Option (Stamped A) → Option (Stamped A) → Option (Stamped A)
newer None other = other
newer (Some one) None = Some one
newer (Some one) (Some other) = if nat_lt one.stamp other.stamp then Some other else Some one

-- what has the greatest stamp
abbrev pub newest : {A : Type 0} → List (Option (Stamped A)) → Option (Stamped A)
newest [] = None
newest (one ∷ others) = newer one (newest others)

-- the record of inode i in a body, under the body's commit stamp
abbrev pub record_in : ℕ → Body → Option (Stamped (List ℕ))
record_in i body = option_map (λ entry. record { stamp = body.stamp; value = entry.bytes }) (find (λ entry. entry.inode == i) body.entries)

-- the record of inode i that stands under the greatest commit stamp
abbrev pub held : List Body → ℕ → Option (List ℕ)
held bodies i = option_map (λ newest. newest.value) (newest (map (record_in i) bodies))

-- the byte at which the record of inode i stands in the inode table
abbrev pub table_byte : Layout → ℕ → ℕ
table_byte layout i = 4096 * table_start layout + 512 * i

-- the record of inode i in the inode table
abbrev pub table_record : Layout → List ℕ → ℕ → List ℕ
table_record layout image i = part (table_byte layout i) 512 image

-- the settled record of inode i: that of the open slot with the greatest commit stamp that has one, else the table's
abbrev pub settled : Layout → List ℕ → ℕ → List ℕ
settled layout image i = unwrap_or (held (open_bodies layout image) i) (table_record layout image i)

-- the settled part of inode i
abbrev pub parts_of : Layout → List ℕ → ℕ → Part
parts_of layout image i = part_of (image_block image) (settled layout image i)

-- a wrong place of a journal: the core and slot, and the byte counted from the slot's begin
pub record SlotFault : Type 0 where
  pub core : ℕ
  pub slot : ℕ
  pub at : ℕ

-- the first wrong place of the slot of a number, with the commit stamps of the open slots before it
abbrev pub slot_fault_of : Layout → List ℕ → ℕ → Option SlotFault
slot_fault_of layout image k =
    option_map (λ at. record { core = k / layout.slots; slot = k % layout.slots; at = at })
    (journal_fault layout.inodes (map (λ body. body.stamp) (open_below layout image k)) (journal_slot layout image k))

-- the first wrong place of an image's journals, by core, then slot, then byte
abbrev pub journal_fault_of : Layout → List ℕ → Option SlotFault
journal_fault_of layout image = first_of (slot_count layout) (slot_fault_of layout image)
