-- The node of an entry, and what the disk has of it.
use Rattle.std.specs.Prelude.{ℕ, List, Option}
use Rattle.sfs_base.specs.declared.numbers.NodeId.{NodeId}
use Rattle.sfs_image.specs.Inode.{Inode, Table}
use Rattle.sfs_image.specs.Slot.{Row}
use Rattle.disk_nodes.specs.OldKept.{OldKept}
use Rattle.disk_nodes.specs.declared.old.OldEntry.{OldEntry}

-- the node of an entry
abbrev pub entry_node : OldEntry → ℕ
entry_node entry = entry.node.0

-- what the disk has of an entry's node
abbrev pub entry_old : OldEntry → OldKept
entry_old entry = entry.old

-- the entry of a node with this inode
abbrev pub old_entry : NodeId → ℕ → Inode → List Table → List (List (Option Row)) → OldEntry
old_entry node number inode tables slots =
    record { node = node; old = record { number = number; kept = record { inode = inode; tables = tables; slots = slots } } }
