-- What a durable commit leaves of the nodes that it held.
use Rattle.std.specs.Prelude.{ℕ, ◌+◌, ◌&&◌, not, Bool, List, [], ◌∷◌, map, max, Option, is_some, option_map, if◌then◌else◌}
use Rattle.sfs_base.specs.declared.numbers.NodeId.{NodeId}
use Rattle.sfs_base.specs.declared.numbers.Stamp.{Stamp}
use Rattle.sfs_base.specs.Listed.{is_listed}
use Rattle.tree_laws.specs.NameRow.{node_number}
use Rattle.keyed_list.specs.Ascending.{item_with}
use Rattle.disk_nodes.specs.OldKept.{OldKept}
use Rattle.disk_nodes.specs.declared.old.OldEntry.{OldEntry}
use Rattle.disk_nodes.specs.Nodes.{entry_node, entry_old}
use Rattle.mem_values.specs.declared.cell.Cell.{Cell}
use Rattle.mem_values.specs.declared.cell.Cell.TheVariants as cell
use Rattle.fsync_values.specs.Lending.{old_of_value}
use Rattle.fsync_values.specs.declared.renewing.Renewal.{Renewal}

-- what entries have of a node
abbrev pub kept_of_node : List OldEntry → ℕ → Option OldKept
kept_of_node entries node = option_map entry_old (item_with entry_node node entries)

-- the cut of a node behind a commit: that of a member is the commit's stamp at least
abbrev pub cut_then : Stamp → Bool → Stamp → Stamp
cut_then stamp member cut = if member then record { 0 = max cut.0 stamp.0 } else cut

-- a value of what was flushed of a node, as a commit leaves it: with this cut, its number and what the disk has of the node then; where the node was made stays
abbrev pub renewed_by : Stamp → Bool → ℕ → Option OldKept → Cell → Cell
renewed_by stamp member number old (cell.Pending pending) = cell.Pending (record pending {
  value = record pending.value { cut = cut_then stamp member pending.value.cut; last = number; old = old };
})
renewed_by stamp member number old (cell.Lock lock) = cell.Lock lock
renewed_by stamp member number old (cell.Bucket bucket) = cell.Bucket bucket
renewed_by stamp member number old (cell.File file) = cell.File file
renewed_by stamp member number old (cell.Part part) = cell.Part part

-- the value of a node as a commit leaves it, by the commit's members and what the disk has of its nodes then
abbrev pub renewed_value : Renewal → List NodeId → List OldEntry → NodeId → Cell → Cell
renewed_value renewal members after node value =
    renewed_by renewal.stamp (is_listed (map node_number members) node.0) renewal.number (kept_of_node after node.0) value

-- a function of each node and its value
abbrev pub values_by : (NodeId → Cell → Cell) → List NodeId → List Cell → List Cell
values_by f [] values = []
values_by f (node ∷ nodes) [] = []
values_by f (node ∷ nodes) (value ∷ values) = f node value ∷ values_by f nodes values

-- the values of nodes as a commit leaves them
abbrev pub values_renewed : Renewal → List NodeId → List OldEntry → List NodeId → List Cell → List Cell
values_renewed renewal members after nodes values = values_by (renewed_value renewal members after) nodes values

-- whether a value needs a box for what the disk has of its node then: it has none
abbrev pub asks_box : Option OldKept → Cell → Bool
asks_box old value = is_some old && not (is_some (old_of_value value))

-- how many of nodes do
abbrev pub boxes_asked : List OldEntry → List NodeId → List Cell → ℕ
boxes_asked after [] values = 0
boxes_asked after (node ∷ nodes) [] = 0
boxes_asked after (node ∷ nodes) (value ∷ values) = (if asks_box (kept_of_node after node.0) value then 1 else 0) + boxes_asked after nodes values
