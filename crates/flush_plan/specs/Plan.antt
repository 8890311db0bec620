-- What an fsync of a node changes on the disk.
use Rattle.std.specs.Prelude.{◌≡◌, ℕ, nat_le, ◌&&◌, ◌||◌, Bool, true, false, List, [], map, All, Option, option_to_list}
use Rattle.std.specs.List.Sorted.{IsStrictlyIncreasing}
use Rattle.sfs_base.specs.declared.numbers.NodeId.{NodeId}
use Rattle.sfs_base.specs.declared.numbers.Stamp.{Stamp}
use Rattle.sfs_base.specs.Listed.{is_listed}
use Rattle.tree_laws.specs.NameRow.{node_number}
use Rattle.look_laws.specs.Made.{Lifts, AreMoved}
use Rattle.dep_closure.specs.declared.gathered.Gathered.{Gathered}
use Rattle.dep_closure.specs.Gathered.{look_of, cut_in}
use Rattle.keyed_list.specs.Ascending.{AscendBy}
use Rattle.disk_change.specs.Nodes.{enter_node}
use Rattle.disk_change.specs.Planned.{planned}
use Rattle.disk_change.specs.declared.enter.Enter.{Enter}
use Rattle.disk_change.specs.declared.files.FileChange.{FileChange}
use Rattle.disk_nodes.specs.declared.old.OldEntry.{OldEntry}
use Rattle.flush_plan.specs.declared.concern.Concern.{Concern}
use Rattle.flush_plan.specs.declared.plans.FsyncPlan.{FsyncPlan}
use Rattle.flush_plan.specs.Kinds.{spans_in}
use Rattle.flush_plan.specs.Moved.{cuts_after, found_by, kind_entering}

-- whether an fsync at a stamp writes of its own file: this has an inode or gets one, and nothing of it was flushed that is later than the stamp
abbrev pub is_written : Gathered → List Enter → ℕ → ℕ → Bool
is_written gathered enter node stamp =
    (is_listed (map node_number gathered.inodes.items) node || is_listed (map enter_node enter) node)
    && nat_le (cut_in gathered.cuts.items node) stamp

-- the changes of files: that of the fsync's own node, where there is one and it is written
abbrev pub files_written : Bool → Option FileChange → List FileChange
files_written true change = option_to_list change
files_written false change = []

-- The nodes that get an inode, with their kinds, and those that lose theirs: each list ascends, and they are those that the rule of an
-- fsync moves at the lifted cuts.
pub record MovesInodes (start : NodeId) (below : Stamp) (gathered : Gathered) (concern : Concern) (old : List OldEntry) (is_file : Bool)
    (enter : List Enter) (leave : List NodeId) : Type 0 where
  pub enter_ascends : AscendBy enter_node enter
  pub leave_ascends : IsStrictlyIncreasing (map node_number leave)
  pub lifts : Lifts (look_of start below gathered) (cuts_after below gathered concern)
  pub moved : AreMoved (look_of start below gathered) (cuts_after below gathered concern) (found_by old concern.nets.items is_file)
      (is_listed (map enter_node enter)) (is_listed (map node_number leave))
  pub kinds : All (λ one. one.kind ≡ kind_entering start is_file (spans_in gathered below concern.members.items) one.node.0) enter

-- What an fsync of a node at a stamp comes to, by what was gathered, what the disk has of the concerned nodes, whether the node is a file, and
-- the change of its bytes: the members and the nodes that it touches, the nodes that get and lose an inode, and the change of the disk.
pub record IsPlanOf (start : NodeId) (below : Stamp) (gathered : Gathered) (concern : Concern) (old : List OldEntry) (is_file : Bool)
    (change : Option FileChange) (plan : FsyncPlan) : Type 0 where
  pub enter : List Enter
  pub members : plan.members.items ≡ concern.members.items
  pub nodes : plan.nodes.items ≡ concern.nodes.items
  pub moves : MovesInodes start below gathered concern old is_file enter plan.leave.items
  pub made : plan.change
      ≡ planned old concern.nets.items (files_written (is_written gathered enter start.0 below.0) change) enter plan.leave.items
