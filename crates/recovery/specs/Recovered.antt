-- What a recovery answers, and what each crash during it leaves.
use Rattle.std.specs.Prelude.{◌≡◌, ℕ, ◌<◌, List, length, None, Some, Result, Ok, Err}
use Rattle.sfs_image.specs.ImageOf.{IsImageOf}
use Rattle.sfs_image.specs.Part.{Part}
use Rattle.sfs_image.specs.Settled.{layout_of, parts_of}
use Rattle.sfs_image.specs.Super.{IsLayout}
use Rattle.sfs_dev.specs.Disk.{View}
use Rattle.sfs_dev.specs.Run.{Advances, Unwritten, HasReadCause}
use Rattle.tree_laws.specs.Laws.{IsSoundTree}
use Rattle.tree_laws.specs.Sound.{IsWithinLimits}
use Rattle.commit_one.specs.Carried.{GoesOnTelling}
use Rattle.commit_one.specs.Change.{nothing_open}
use Rattle.journal_one.specs.Known.{EachLeft}
use Rattle.image_laws.specs.Image.{fault_of, tree_of, inodes_shown}
use Rattle.image_laws.specs.ImageTree.{image_tree}
use Rattle.disk_tree.specs.Found.{making_when_read}
use Rattle.disk_tree.specs.Judged.{fault_of_parts}
use Rattle.disk_tree.specs.KeptParts.{kept_in_use}
use Rattle.disk_tree.specs.Whole.{IsReadWhole, AreWholeRecords}
use Rattle.recovery.specs.Cause.{is_recover_disk_fault}
use Rattle.recovery.specs.Freed.{without_unlinked, orphans_of, AreUnlinkedFree}
use Rattle.recovery.specs.Open.{open_slots_of}
use Rattle.recovery.specs.declared.fault.RecoverFault.{RecoverFault}
use Rattle.recovery.specs.declared.fault.RecoverFault.TheVariants.{DiskFailed, BadSuper, BadJournal, BadImage, NoMemory}
use Rattle.recovery.specs.declared.whole.Report.{Report}

-- An image shows what another shows: the same first fault, and the same tree.
pub record ShowsTheSame (image other : List ℕ) : Type 0 where
  pub fault : fault_of image ≡ fault_of other
  pub tree : (share : ℕ) → tree_of image share ≡ tree_of other share

-- a refusal of an image has written nothing to it
abbrev pub LeavesRefused : View → View → RecoverFault → Type 0
LeavesRefused old new (BadSuper at) = Unwritten old new
LeavesRefused old new (BadJournal core slot at) = Unwritten old new
LeavesRefused old new (BadImage inode rule) = Unwritten old new
LeavesRefused old new DiskFailed = Unit {0}
LeavesRefused old new NoMemory = Unit {0}

-- A recovery writes where something is to be done: a refusal of an image has written nothing to it, and neither has a recovery that found no
-- slot open and no orphan.
abbrev pub WritesIfDue : View → View → Result Report RecoverFault → Type 0
WritesIfDue old new (Ok report) = report.closed ≡ 0 → report.freed ≡ 0 → Unwritten old new
WritesIfDue old new (Err fault) = LeavesRefused old new fault

-- What a recovery reports of an image, whose settled records are whole: its layout and its tree, what is kept of its inodes in use without
-- orphans, how many slots were open, and how many orphans there were.
pub record IsReportOf (image : List ℕ) (report : Report) : Type 0 where
  pub layout_is : report.layout ≡ layout_of image
  pub whole : AreWholeRecords report.layout image
  pub tree : tree_of image 0 ≡ Some report.tree
  pub kept : report.parts.items ≡ kept_in_use report.layout.inodes (without_unlinked (parts_of report.layout image))
  pub closed : report.closed ≡ length (open_slots_of report.layout image)
  pub freed : report.freed ≡ length (orphans_of report.layout image)

-- What a recovery reports of any disk: a layout that the disk can have, and a sound tree within its limits. There are parts without fault,
-- which were read whole, that show this tree, and of those in use, without orphans, there is what is kept.
pub record IsSoundReport (size : ℕ) (report : Report) : Type 0 where
  pub fits : IsLayout size report.layout
  pub sound : IsSoundTree report.tree
  pub limits : IsWithinLimits report.tree
  pub parts : ℕ → Part
  pub whole : (i : ℕ) → i < report.layout.inodes → IsReadWhole (parts i)
  pub faultless : fault_of_parts report.layout parts ≡ None
  pub shown : report.tree ≡ image_tree (inodes_shown report.layout parts) (making_when_read report.layout)
  pub kept : report.parts.items ≡ kept_in_use report.layout.inodes (without_unlinked parts)

-- A recovered image: it stands for the parts of the image that was recovered without orphans, with no slot open, and shows what that did.
pub record IsRecoveredFrom (image now : List ℕ) : Type 0 where
  pub parts : ℕ → Part
  pub without : AreUnlinkedFree (layout_of image) (parts_of (layout_of image) image) parts
  pub stands : IsImageOf (layout_of image) nothing_open parts now
  pub same : ShowsTheSame now image

-- A disk holds what was recovered of an image: each image that a crash leaves is recovered from it, and the disk goes on telling its content.
pub record HoldsRecovered (image : List ℕ) (old new : View) : Type 0 where
  pub left : EachLeft new (IsRecoveredFrom image)
  pub tells : GoesOnTelling old new

-- A recovery advances the disk, and ends for a cause.
pub record RunsRecovery {V : Type 0} (old new : View) (result : Result V RecoverFault) : Type 0 where
  pub advances : Advances old new
  pub cause : HasReadCause is_recover_disk_fault old.faults new.faults result
