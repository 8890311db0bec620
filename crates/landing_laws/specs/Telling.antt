-- That a core may tell a durable commit, by what it holds and by what was seen of its numbers.
use Rattle.std.specs.Prelude.{◌≡◌, ◌≢◌, ◌<◌, ◌≤◌, ℕ, true, Contains, List, Option, Some, length, map, filter_map, is_some}
use Rattle.sfs_base.specs.declared.numbers.NodeId.{NodeId}
use Rattle.sfs_base.specs.Listed.{is_listed}
use Rattle.tree_laws.specs.NameRow.{node_number}
use Rattle.tree_laws.specs.Tree.{TreeState, is_directory}
use Rattle.tree_laws.specs.History.{tree_after}
use Rattle.cut_laws.specs.Rules.{IsOneOf}
use Rattle.disk_nodes.specs.OldKept.{OldKept}
use Rattle.disk_nodes.specs.declared.old.OldEntry.{OldEntry}
use Rattle.stamp_table.specs.Events.{calls_in}
use Rattle.mem_values.specs.Account.{Commitment, commit_told}
use Rattle.mem_values.specs.Facts.{HasFsync}
use Rattle.mem_values.specs.Laws.{KnowsCells}
use Rattle.mem_values.specs.Places.{node_count}
use Rattle.mem_values.specs.Start.{FileHand}
use Rattle.mem_values.specs.Telling.{MayTellCommit}
use Rattle.mem_values.specs.declared.cell.Pending.{Pending}
use Rattle.mem_calls.specs.Held.{pending_held}
use Rattle.fsync_values.specs.Renewing.{kept_of_node}
use Rattle.landing_laws.specs.Written.{CommitDone, HoldsWhatItWrote}

-- the tree after all that a core has seen
abbrev pub tree_seen : FileHand → TreeState
tree_seen hand = tree_after hand.view.first (calls_in hand.view.seen)

-- A commit's members are the directories among the nodes that it flushes, each of which it holds.
pub record HasMembers (hand : FileHand) (list : List NodeId) (done : CommitDone) (commit : Commitment) : Type 0 where
  pub directories : (node : ℕ) → IsOneOf commit.members node → is_directory (tree_seen hand) node ≡ true
  pub flushed : (node : ℕ) → IsOneOf commit.members node → is_listed (map node_number done.members) node ≡ true
  pub held : (node : ℕ) → IsOneOf commit.members node → is_listed (map node_number list) node ≡ true
  pub all : (node : ℕ) → is_listed (map node_number done.members) node ≡ true → is_directory (tree_seen hand) node ≡ true → IsOneOf commit.members node

-- A core holds what was flushed of a commit's nodes, and it became durable with a number above all that it knew: each cut is at most the calls that were seen;
-- what the disk has of nodes then are inodes of the table, and of the root it has one.
pub record HasLanded (given : ℕ → Option OldKept) (nodes : ℕ) (list : List NodeId) (hand : FileHand) (done : CommitDone) (commit : Commitment) : Type 0 where
  pub own : HasFsync (calls_in hand.view.mine) hand.view.core commit.node commit.stamp
  pub core_is : commit.core ≡ hand.view.core
  pub stamp_is : commit.stamp ≡ done.renewal.stamp.0
  pub stamped : commit.stamp ≤ length (calls_in hand.view.seen)
  pub fresh : (other : Commitment) → IsOneOf (filter_map commit_told hand.view.mine) other → other.number ≢ commit.number
  pub counted : nodes ≡ node_count hand.view.first
  pub knows : KnowsCells given hand.view hand.held
  pub holds : HoldsWhatItWrote (tree_seen hand) nodes list hand.held done commit
  pub members : HasMembers hand list done commit
  pub later : (node : NodeId) (value : Pending) → pending_held nodes hand.held node ≡ Some value → value.last < commit.number
  pub cuts : (node : NodeId) (value : Pending) → pending_held nodes hand.held node ≡ Some value → value.cut.0 ≤ length (calls_in hand.view.seen)
  pub low : (entry : OldEntry) → Contains done.after entry → entry.old.number < hand.view.first.first
  pub root : is_listed (map node_number list) 0 ≡ true → is_some (kept_of_node done.after 0) ≡ true

-- Then it may be told.
abbrev pub LandedMayBeTold : Type 0
LandedMayBeTold = (given : ℕ → Option OldKept) (nodes : ℕ) (list : List NodeId) (hand : FileHand) (done : CommitDone) (commit : Commitment)
    → HasLanded given nodes list hand done commit → MayTellCommit given hand.view commit
