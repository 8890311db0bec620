-- What is kept in memory of the inodes in use.
use Rattle.std.specs.Prelude.{ℕ, ◌==◌, List, filter_map, Option, None, Some, if◌then◌else◌}
use Rattle.std.specs.List.{range_with_len}
use Rattle.sfs_base.specs.Lists.{Roomy}
use Rattle.sfs_image.specs.Inode.{Inode, Table}
use Rattle.sfs_image.specs.Part.{Part, is_free_part}
use Rattle.sfs_image.specs.Slot.{Row}
use Rattle.block_map.specs.Kept.{kept_of}
use Rattle.disk_nodes.specs.OldKept.{Kept}
use Rattle.disk_tree.specs.Blocks.{slots_at}
use Rattle.disk_tree.specs.Gathered.{tables_at}
use Rattle.disk_tree.specs.Inodes.{inode_at}

-- What is kept of the part of an inode, with the inode's number.
pub record NumberedKept : Type 0 where
  pub number : ℕ
  pub kept : Kept

-- what is kept of the part of an inode, where that is in use
abbrev pub kept_if_used : (ℕ → Part) → ℕ → Option NumberedKept
kept_if_used parts i = if is_free_part (parts i) then None else Some (record { number = i; kept = kept_of (parts i) })

-- what is kept of those of the first inodes that are in use, ascending
unfoldable pub kept_in_use : ℕ → (ℕ → Part) → List NumberedKept
kept_in_use count parts = filter_map (kept_if_used parts) (range_with_len 0 count)

-- what is kept of an inode that is in use, by what was gathered
abbrev pub gathered_if_used : List Inode → List (Roomy Table) → List (Roomy (List (Option Row))) → ℕ → Option NumberedKept
gathered_if_used inodes tables slots i =
    if (inode_at inodes i).kind == 0 then None
    else Some (record { number = i; kept = record { inode = inode_at inodes i; tables = tables_at tables i; slots = slots_at slots i } })

-- what is kept of those of the first inodes that are in use, by what was gathered, ascending
unfoldable pub gathered_in_use : List Inode → List (Roomy Table) → List (Roomy (List (Option Row))) → ℕ → List NumberedKept
gathered_in_use inodes tables slots count = filter_map (gathered_if_used inodes tables slots) (range_with_len 0 count)
