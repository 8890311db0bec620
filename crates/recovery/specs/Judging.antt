-- What is read of a disk before anything is written to it: what its journals settle, and the tree that this shows.
use Rattle.std.specs.Prelude.{◌≡◌, ℕ, ◌≤◌, List, length, None, Some}
use Rattle.std.specs.List.{AllByRecursion}
use Rattle.sfs_image.specs.ImageOf.{IsImageOf, transaction_in, table_parts}
use Rattle.sfs_image.specs.Settled.{slot_count}
use Rattle.image_laws.specs.Image.{Super, Journal, Tree as TreeFaultOf, fault_of}
use Rattle.disk_tree.specs.Told.{SettlesRecords, IsFoundOf}
use Rattle.recovery.specs.Open.{AreOpen, IsGoodSlot}
use Rattle.recovery.specs.Recovering.{AreNewestOf}
use Rattle.recovery.specs.declared.fault.RecoverFault.{RecoverFault}
use Rattle.recovery.specs.declared.fault.RecoverFault.TheVariants.{DiskFailed, BadSuper, BadJournal, BadImage, NoMemory}
use Rattle.recovery.specs.declared.judged.Judged.{Judged}

-- what a refusal says of an image: its first fault; and nothing of it, where the disk failed or memory is wanting
abbrev pub IsFaultOf : List ℕ → RecoverFault → Type 0
IsFaultOf image (BadSuper at) = fault_of image ≡ Some (Super at)
IsFaultOf image (BadJournal core slot at) = fault_of image ≡ Some (Journal (record { core = core; slot = slot; at = at }))
IsFaultOf image (BadImage inode rule) = fault_of image ≡ Some (TreeFaultOf (record { rule = rule; inode = inode }))
IsFaultOf image DiskFailed = Unit {0}
IsFaultOf image NoMemory = Unit {0}

-- a refusal is that of an inode that breaks a rule, or of nothing that an image has
abbrev pub IsTreeRefusal : (ℕ → ℕ → Type 0) → RecoverFault → Type 0
IsTreeRefusal P (BadImage inode rule) = P inode rule
IsTreeRefusal P (BadSuper at) = ⊥
IsTreeRefusal P (BadJournal core slot at) = ⊥
IsTreeRefusal P DiskFailed = Unit {0}
IsTreeRefusal P NoMemory = Unit {0}

-- What was read fits together: there is a commit stamp and a record for each inode, and the open slots are good and not too many.
pub record IsFit (judged : Judged) : Type 0 where
  pub stamps : length judged.stamps.items ≡ judged.layout.inodes
  pub records : length judged.records.items ≡ judged.layout.inodes
  pub good : AllByRecursion (IsGoodSlot judged.layout) judged.open_slots.items
  pub few : length judged.open_slots.items ≤ slot_count judged.layout

-- What was read is an image's: nothing is wrong in it, its open slots and newest records are those that were read, and the tree is its own.
pub record IsJudgedOn (image : List ℕ) (judged : Judged) : Type 0 where
  pub faultless : fault_of image ≡ None
  pub settles : SettlesRecords image judged.layout judged.records.items
  pub open_slots : AreOpen judged.layout image (slot_count judged.layout) judged.open_slots.items
  pub newest : IsImageOf judged.layout (transaction_in judged.layout image) (table_parts judged.layout image) image
      → AreNewestOf judged.layout (transaction_in judged.layout image) (table_parts judged.layout image) judged.stamps.items judged.records.items
  pub found : IsFoundOf image judged.layout judged.found
