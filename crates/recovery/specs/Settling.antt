-- How the records of an image settle: of each inode the record under the greatest commit stamp.
use Rattle.std.specs.Prelude.{◌≡◌, ℕ, ◌*◌, ◌<◌, ◌==◌, List, [], length, map, slice_index, slice_index_or, Option, None, Some, option_map, unwrap_or, if◌then◌else◌, Bool, true, nat_le}
use Rattle.std.specs.List.{range_with_len}
use Rattle.sfs_image.specs.Bytes.{part}
use Rattle.sfs_image.specs.Journal.{Entry}
use Rattle.sfs_image.specs.Settled.{Body, Stamped, newer, newest, record_in, body_in, journal_slot, slot_count, layout_of, super_fault_of, journal_fault_of, open_bodies, table_record, settled}
use Rattle.sfs_image.specs.Super.{Layout}
use Rattle.recovery.specs.Open.{AreOpen}
use Rattle.recovery.specs.declared.journals.OpenSlot.{OpenSlot}
use Rattle.recovery.specs.declared.settled.Journals.{Journals}
use Rattle.recovery.specs.declared.settled.Settled.{Settled as SettledRecords}
use Rattle.recovery.specs.declared.fault.RecoverFault.{RecoverFault}
use Rattle.recovery.specs.declared.fault.RecoverFault.TheVariants.{DiskFailed, BadSuper, BadJournal, BadImage, NoMemory}
use Rattle.recovery.specs.declared.newest.Newest.{Newest}

-- the record that some bodies have of each inode, that under the greatest commit stamp
abbrev pub best_of : List Body → ℕ → Option (Stamped (List ℕ))
best_of bodies i = newest (map (record_in i) bodies)

-- the same with one more record of an inode, which comes before
abbrev pub with_record : ℕ → ℕ → List ℕ → (ℕ → Option (Stamped (List ℕ))) → ℕ → Option (Stamped (List ℕ))
with_record inode stamp bytes best i = if inode == i then newer (Some (record { stamp = stamp; value = bytes })) (best i) else best i

-- the same with the records of one more body
abbrev pub with_body : Body → (ℕ → Option (Stamped (List ℕ))) → ℕ → Option (Stamped (List ℕ))
with_body body best i = newer (record_in i body) (best i)

-- These are the commit stamps and the records of so many inodes: of each inode the best record, or the table's where there is none.
pub record AreSettled (inodes : ℕ) (table : ℕ → List ℕ) (best : ℕ → Option (Stamped (List ℕ))) (kept : Newest) : Type 0 where
  pub stamp_count : length kept.stamps.items ≡ inodes
  pub record_count : length kept.records.items ≡ inodes
  pub stamps : (i : ℕ) → i < inodes → slice_index_or kept.stamps.items i None ≡ option_map (λ (s : Stamped (List ℕ)). s.stamp) (best i)
  pub records : (i : ℕ) → i < inodes → slice_index_or kept.records.items i [] ≡ unwrap_or (option_map (λ (s : Stamped (List ℕ)). s.value) (best i)) (table i)

-- so many records of 512 bytes, one behind another, each with its inode number
abbrev pub packed_entry : List ℕ → List ℕ → ℕ → Entry
packed_entry numbers bytes k = record { inode = slice_index numbers k; bytes = part (512 * k) 512 bytes }

-- the first n of them
abbrev pub packed_entries : List ℕ → List ℕ → ℕ → List Entry
packed_entries numbers bytes n = map (packed_entry numbers bytes) (range_with_len 0 n)

-- a body with them
abbrev pub packed_body : ℕ → List ℕ → List ℕ → Body
packed_body stamp numbers bytes = record { stamp = stamp; entries = packed_entries numbers bytes (length numbers) }

-- whether a commit stamp is none or at most another
abbrev pub is_older : Option ℕ → ℕ → Bool
is_older None stamp = true
is_older (Some other) stamp = nat_le other stamp

-- there is a stamp and a record of each inode
pub record HaveCounts (inodes : ℕ) (kept : Newest) : Type 0 where
  pub stamps : length kept.stamps.items ≡ inodes
  pub records : length kept.records.items ≡ inodes

-- the body of an open slot that was read
abbrev pub body_read : Layout → List ℕ → OpenSlot → Body
body_read layout image one = body_in layout.inodes (journal_slot layout image one.number)

-- the bodies of several
abbrev pub bodies_read : Layout → List ℕ → List OpenSlot → List Body
bodies_read layout image found = map (body_read layout image) found

-- What was read of an image whose superblock and journals are sound: its layout, its open slots, and the records that they settle.
pub record WereRead (image : List ℕ) (read : Journals) : Type 0 where
  pub super : super_fault_of image ≡ None
  pub layout_is : read.layout ≡ layout_of image
  pub journals : journal_fault_of read.layout image ≡ None
  pub open_slots : AreOpen read.layout image (slot_count read.layout) read.open.items
  pub settled : AreSettled read.layout.inodes (table_record read.layout image) (best_of (open_bodies read.layout image)) read.newest

-- The layout and the settled records of an image whose superblock and journals are sound.
pub record IsSettledOn (image : List ℕ) (read : SettledRecords) : Type 0 where
  pub super : super_fault_of image ≡ None
  pub layout_is : read.layout ≡ layout_of image
  pub journals : journal_fault_of read.layout image ≡ None
  pub records : (i : ℕ) → i < read.layout.inodes → slice_index_or read.records.items i [] ≡ settled read.layout image i

-- what a refusal says of an image: the first fault of its superblock, or of its journals where that is sound
abbrev pub IsSettledRefusal : List ℕ → RecoverFault → Type 0
IsSettledRefusal image (BadSuper at) = super_fault_of image ≡ Some at
IsSettledRefusal image (BadJournal core slot at) =
    (super_fault_of image ≡ None) × (journal_fault_of (layout_of image) image ≡ Some (record { core = core; slot = slot; at = at }))
IsSettledRefusal image (BadImage inode rule) = ⊥
IsSettledRefusal image DiskFailed = Unit {0}
IsSettledRefusal image NoMemory = Unit {0}
