-- What a durable commit wrote of the nodes that its core held.
use Rattle.std.specs.Prelude.{◌≡◌, ℕ, List, [], ◌∷◌, map, All}
use Rattle.std.specs.List.Sorted.{IsStrictlyIncreasing}
use Rattle.sfs_base.specs.declared.numbers.NodeId.{NodeId}
use Rattle.sfs_base.specs.declared.numbers.Stamp.{Stamp}
use Rattle.sfs_base.specs.Listed.{is_listed}
use Rattle.tree_laws.specs.NameRow.{node_number}
use Rattle.tree_laws.specs.Tree.{TreeState}
use Rattle.disk_nodes.specs.declared.old.OldEntry.{OldEntry}
use Rattle.stamp_table.specs.Hand.{places_of}
use Rattle.stamp_table.specs.Table.{values_in}
use Rattle.stamp_table.specs.declared.held.HeldCell.{HeldCell}
use Rattle.mem_values.specs.Account.{Commitment}
use Rattle.mem_values.specs.declared.cell.Cell.{Cell}
use Rattle.mem_values.specs.declared.cell.Cell.TheVariants as cell
use Rattle.mem_values.specs.declared.fact.HeldNode.{HeldNode}
use Rattle.home_laws.specs.Laws.{IsNodeOf}
use Rattle.fsync_look.specs.Look.{IsBelow, flushed_place}
use Rattle.fsync_gather.specs.Gathers.{IsHeldOf}
use Rattle.fsync_values.specs.Renewing.{cut_then, kept_of_node, values_renewed}
use Rattle.fsync_values.specs.declared.renewing.Renewal.{Renewal}
use Rattle.fsync_end.specs.Finishing.{AreWritten}

-- the cut of a node, by its value
abbrev pub cut_of_value : Cell → Stamp
cut_of_value (cell.Pending pending) = pending.value.cut
cut_of_value _ = record { 0 = 0 }

-- What a commit did: its number and the stamp of its fsync, its members, and what the disk has of its nodes once it is durable.
pub record CommitDone : Type 0 where
  pub renewal : Renewal
  pub members : List NodeId
  pub after : List OldEntry

-- what it wrote of a node, by its value as it was
abbrev pub node_wrote : CommitDone → NodeId → Cell → HeldNode
node_wrote done node value = record {
  node = node;
  new_cut = cut_then done.renewal.stamp (is_listed (map node_number done.members) node.0) (cut_of_value value);
  new = kept_of_node done.after node.0;
}

-- and of nodes, a value a node
abbrev pub nodes_wrote : CommitDone → List NodeId → List Cell → List HeldNode
nodes_wrote done [] values = []
nodes_wrote done (node ∷ nodes) [] = []
nodes_wrote done (node ∷ nodes) (value ∷ values) = node_wrote done node value ∷ nodes_wrote done nodes values

-- A commit holds exactly the nodes whose flushed values a core held, in their order, and says of each what it wrote. They are nodes of a tree.
pub record HoldsWhatItWrote (tree : TreeState) (nodes : ℕ) (list : List NodeId) (cells : List (HeldCell Cell)) (done : CommitDone) (commit : Commitment) :
    Type 0 where
  pub places : places_of cells ≡ map (flushed_place nodes) list
  pub ascend : IsStrictlyIncreasing (map node_number list)
  pub held : All (IsHeldOf nodes cells) list
  pub within : All (IsBelow nodes) list
  pub are_nodes : All (λ (node : NodeId). IsNodeOf tree node.0) list
  pub numbered : commit.number ≡ done.renewal.number
  pub wrote : commit.held ≡ nodes_wrote done list (values_in cells)

-- Then the renewed values are what it writes.
abbrev pub RenewedAreWritten : Type 0
RenewedAreWritten = (tree : TreeState) (nodes : ℕ) (list : List NodeId) (cells : List (HeldCell Cell)) (done : CommitDone) (commit : Commitment)
    → HoldsWhatItWrote tree nodes list cells done commit
    → AreWritten tree nodes commit cells (values_renewed done.renewal done.members done.after list (values_in cells))
