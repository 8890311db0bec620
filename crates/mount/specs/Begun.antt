-- The table that a mount begins.
use Rattle.std.specs.Prelude.{◌≡◌, ℕ, All, length}
use Rattle.sfs_image.specs.Super.{Layout}
use Rattle.tree_laws.specs.Tree.{TreeState}
use Rattle.stamp_table.specs.Table.{AreAllCores, AreNew, IsBetweenCalls}
use Rattle.mem_values.specs.Start.{GivenDisk}
use Rattle.mount_begin.specs.Mounted.{share_of_nodes}
use Rattle.mem_calls.specs.Table.{IsFileTable, nodes_of}
use Rattle.mem_calls.specs.declared.numbers.Numbers.{Numbers}
use Rattle.mount.specs.declared.mounting.Tabled.{Tabled}

-- by what the cores of a volume with this layout number new nodes, where so many are shared among them
abbrev pub numbers_for : Layout → ℕ → Numbers
numbers_for layout nodes = record { first = layout.inodes; share = share_of_nodes nodes layout }

-- A table is over a tree and was given what the disk has of each node; it is one of a file tree with so many cores, which have made no call.
pub record IsTableOver {D : Type 0} (tree : TreeState) (given : GivenDisk) (cores : ℕ) (made : Tabled D) : Type 0 where
  pub first : made.table.first ≡ tree
  pub given_is : made.table.table.given ≡ given
  pub is : IsFileTable made.table (nodes_of made.table)
  pub counted : made.table.cores ≡ length made.table.first.made
  pub count : length made.cores.items ≡ cores
  pub all : AreAllCores made.table made.cores.items
  pub new : AreNew tree made.cores.items
  pub between : All (IsBetweenCalls made.table) made.cores.items
