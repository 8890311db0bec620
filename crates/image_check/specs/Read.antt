-- What was read of an image, and the first fault of an image.
use Rattle.std.specs.Prelude.{◌≡◌, ℕ, ◌<◌, Bool, true, false, List, [], length, slice_index_or, Option, Some}
use Rattle.sfs_base.specs.Lists.{Roomy}
use Rattle.sfs_image.specs.Inode.{Inode}
use Rattle.sfs_image.specs.Slot.{Row}
use Rattle.sfs_dev.specs.Steps.{IfTold}
use Rattle.sfs_image.specs.Settled.{layout_of, settled}
use Rattle.sfs_image.specs.Super.{IsLayout}
use Rattle.image_laws.specs.Image.{Super, Journal, Tree as TreeFaultOf, fault_of}
use Rattle.disk_tree.specs.Found.{WereReadWell}
use Rattle.disk_tree.specs.Ordered.{BreaksFirst, KeepEarlier}
use Rattle.disk_tree.specs.Rows.{AreRowLists}
use Rattle.disk_tree.specs.Told.{SettlesRecords}
use Rattle.disk_tree.specs.declared.fault.TreeFault.{TreeFault as Refusal}
use Rattle.disk_tree.specs.declared.fault.TreeFault.TheVariants as refusal
use Rattle.image_check.specs.Cause.{is_verify_disk_fault}
use Rattle.image_check.specs.declared.fault.VerifyFault.{VerifyFault}
use Rattle.image_check.specs.declared.fault.VerifyFault.TheVariants.{DiskFailed, BadSuper, BadJournal, BadImage, NoMemory}
use Rattle.image_check.specs.declared.reading.ReadImage.{ReadImage}

-- An image was read: a layout that a disk can have, a record for each inode, what reads gave of the inodes, which keep the first seven
-- rules, and the rows in their slots; and where the disk tells an image it settles these records.
pub record IsReadImage (told : Option (List ℕ)) (found : ReadImage) : Type 0 where
  pub size : ℕ
  pub fits : IsLayout size found.layout
  pub count : length found.records.items ≡ found.layout.inodes
  pub well : WereReadWell told found.layout found.records.items found.read
  pub lists : AreRowLists found.read.slots.items (length found.read.slots.items) found.rows.items
  pub settles : IfTold told (λ image. SettlesRecords image found.layout found.records.items)

-- An image was read, whatever the disk tells.
pub record WasRead (found : ReadImage) : Type 0 where
  pub told : Option (List ℕ)
  pub is : IsReadImage told found

-- what a refusal says of an image: its first fault, with the settled record of the inode that breaks a rule; and nothing of it, where
-- the disk failed or memory is wanting
abbrev pub IsFirstFault : List ℕ → VerifyFault → Type 0
IsFirstFault image (BadSuper at) = fault_of image ≡ Some (Super at)
IsFirstFault image (BadJournal core slot at) = fault_of image ≡ Some (Journal (record { core = core; slot = slot; at = at }))
IsFirstFault image (BadImage inode rule bytes) =
    (fault_of image ≡ Some (TreeFaultOf (record { rule = rule; inode = inode }))) × (bytes ≡ settled (layout_of image) image inode)
IsFirstFault image DiskFailed = Unit {0}
IsFirstFault image NoMemory = Unit {0}

-- a refusal for an inode is for one of so many
abbrev pub IsWithin : ℕ → Refusal → Type 0
IsWithin count (refusal.BadImage inode rule) = inode < count
IsWithin count refusal.DiskFailed = Unit {0}
IsWithin count refusal.NoMemory = Unit {0}

-- a refusal, with the record of the inode that breaks a rule
abbrev pub verify_fault : List (List ℕ) → Refusal → VerifyFault
verify_fault records (refusal.BadImage inode rule) = BadImage inode rule (slice_index_or records inode [])
verify_fault records refusal.DiskFailed = DiskFailed
verify_fault records refusal.NoMemory = NoMemory

-- a refusal is not that the disk failed
abbrev pub ReadNothingMore : VerifyFault → Type 0
ReadNothingMore fault = is_verify_disk_fault fault ≡ false

-- An inode is the first that breaks a rule across inodes, of some rule.
pub record BreaksSomeRule (inodes : List Inode) (rows : List (Roomy Row)) : Type 0 where
  pub inode : ℕ
  pub rule : ℕ
  pub first : BreaksFirst inodes rows inode rule

-- whether no directory breaks one of the rules on its rows
abbrev pub KeepsRows : List Inode → List (Roomy Row) → Bool → Type 0
KeepsRows inodes rows true = (reached : List Bool) → KeepEarlier inodes rows reached 12
KeepsRows inodes rows false = BreaksSomeRule inodes rows
