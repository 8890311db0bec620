-- What a commit is to write, and its begin in a slot.
use Rattle.std.specs.Prelude.{◌≡◌, ◌<◌, ℕ, false, All, map, Some, None}
use Rattle.sfs_image.specs.Journal.{Entry}
use Rattle.sfs_image.specs.Super.{Layout}
use Rattle.cut_laws.specs.Closure.{Flush}
use Rattle.journal_one.specs.Job.{LiesInData}
use Rattle.journal_one.specs.Packed.{inode_of_entry}
use Rattle.slot_laws.specs.Labels.{OwnTold}
use Rattle.journal_set.specs.declared.beginning.Writing.{Writing}

-- A commit can be written to a disk of this layout: its inodes are those of its records, and there are such; its fresh blocks lie in the data area.
pub record CanBeWritten (layout : Layout) (writing : Writing) : Type 0 where
  pub noted : writing.inodes.items ≡ map inode_of_entry writing.packed.entries
  pub below : All (λ (entry : Entry). entry.inode < layout.inodes) writing.packed.entries
  pub in_data : All (LiesInData layout) writing.packed.fresh

-- A core's commit has begun in a slot, with the number that it had reserved.
pub record BeginsInSlot (k : ℕ) (flush : Flush) (before after : OwnTold) : Type 0 where
  pub number : ℕ
  pub had : before.reserved ≡ Some number
  pub after_is : after ≡ record before { reserved = None; flight = Some (record { slot = k; commit = number; flush = flush; opened = false }) }
