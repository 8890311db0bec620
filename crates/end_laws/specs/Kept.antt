-- When what is kept of the disk's nodes is as a mount reads it or as a commit leaves it.
use Rattle.std.specs.Prelude.{◌≢◌, List, slice_index, Contains}
use Rattle.sfs_image.specs.Inode.{Table}
use Rattle.disk_nodes.specs.OldKept.{Kept}
use Rattle.disk_nodes.specs.declared.old.OldEntry.{OldEntry}

-- An inode is well kept: it is in use, and each indirect block that is kept of it has its pointer in the record.
pub record IsWellKept (kept : Kept) : Type 0 where
  pub used : kept.inode.kind ≢ 0
  pub tables : (table : Table) → Contains kept.tables table → slice_index kept.inode.indirect table.place ≢ 0

-- so is what some entries have
abbrev pub AreWellKept : List OldEntry → Type 0
AreWellKept entries = (entry : OldEntry) → Contains entries entry → IsWellKept entry.old.kept
