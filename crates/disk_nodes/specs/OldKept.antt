-- What the disk has of a node that has an inode.
use Rattle.std.specs.Prelude.{ℕ, List, Option}
use Rattle.sfs_image.specs.Inode.{Inode, Table}
use Rattle.sfs_image.specs.Slot.{Row}

-- What is kept in memory of the part of an inode in use: its record's inode, its indirect blocks where it has pointers to them, and of
-- a directory its slots, block by block.
pub record Kept : Type 0 where
  pub inode : Inode
  pub tables : List Table
  pub slots : List (List (Option Row))

-- the number of a node's inode, and what is kept of its part
pub record OldKept : Type 0 where
  pub number : ℕ
  pub kept : Kept
