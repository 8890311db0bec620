-- An fsync that was planned on the shared table, and whose commit became durable.
use Rattle.std.specs.Prelude.{◌≡◌, ◌≢◌, ◌<◌, ◌≤◌, ◌==◌, ℕ, not, List, Option, Some, None, map, filter, filter_map, count_by, length, Contains, is_some}
use Rattle.std.specs.FinMap.{get}
use Rattle.sfs_base.specs.declared.numbers.NodeId.{NodeId}
use Rattle.mem_files.specs.File.{File}
use Rattle.tree_laws.specs.NameRow.{node_number}
use Rattle.cut_laws.specs.Rules.{IsOneOf}
use Rattle.space_map.specs.Space.{GrantedNumbers}
use Rattle.disk_nodes.specs.declared.old.OldEntry.{OldEntry}
use Rattle.disk_change.specs.AllBuilt.{after_commit}
use Rattle.disk_change.specs.Planned.{enters}
use Rattle.slot_laws.specs.Nodes.{last_seen}
use Rattle.stamp_table.specs.Events.{calls_in}
use Rattle.stamp_table.specs.Table.{values_in}
use Rattle.mem_values.specs.Account.{Commitment, commit_told}
use Rattle.mem_values.specs.Facts.{HasFsync}
use Rattle.mem_values.specs.Start.{FileState}
use Rattle.mem_calls.specs.Table.{IsFileTable}
use Rattle.mem_calls.specs.Working.{IsWorking}
use Rattle.fsync_draft.specs.Drafting.{seens_of}
use Rattle.landing_laws.specs.Made.{IsDraftedFsync, PlannedFsync}
use Rattle.landing_laws.specs.Telling.{HasLanded}
use Rattle.landing_laws.specs.Written.{CommitDone, nodes_wrote}

-- What was planned, the number and the grant of its commit, and what the disk has of its nodes once it is durable.
pub record LandedFsync : Type 0 where
  pub planned : PlannedFsync
  pub number : ℕ
  pub grant : GrantedNumbers
  pub after : List OldEntry

-- its nodes, which ascend
abbrev pub nodes_landed : LandedFsync → List NodeId
nodes_landed s = s.planned.caught.concern.nodes.items

-- what its commit did
abbrev pub done_of : LandedFsync → CommitDone
done_of s = record {
  renewal = record { number = s.number; stamp = s.planned.fsync.stamp };
  members = s.planned.caught.concern.members.items;
  after = s.after;
}

-- the directories among the members of an fsync: all, but for its own node where that is a file
abbrev pub directories_of : Option File → NodeId → List NodeId → List NodeId
directories_of None node members = members
directories_of (Some file) node members = filter (λ (member : NodeId). not (member.0 == node.0)) members

-- the commit as its core tells it
abbrev pub commitment_of : LandedFsync → Commitment
commitment_of s = record {
  core = s.planned.hand.view.core;
  number = s.number;
  node = s.planned.fsync.node.0;
  stamp = s.planned.fsync.stamp.0;
  members = map node_number (directories_of s.planned.file s.planned.fsync.node s.planned.caught.concern.members.items);
  held = nodes_wrote (done_of s) (nodes_landed s) (values_in s.planned.hand.held);
}

-- the numbers of the last commits of nodes are below one, as they are seen by these values
abbrev pub NumberIsAbove : LandedFsync → Type 0
NumberIsAbove s =
    (node last : ℕ) → last_seen (seens_of (nodes_landed s) (values_in s.planned.hand.held)) node ≡ Some last → last < s.number

-- An fsync was planned by a working core of a table whose disk had something of exactly the nodes of the first tree, and waits. Its commit got a number above
-- those of the last commits of its nodes, which the core has told nothing of, and a grant with an inode for each node that enters, and became durable: what the
-- disk has of the nodes is what the plan leaves with the grant, and has inodes of the table.
pub record HasBecomeDurable (t : FileState) (s : LandedFsync) : Type 0 where
  pub table : IsFileTable t s.planned.nodes
  pub disk : (node : ℕ) → is_some (s.planned.given node) ≡ is_some (get t.first.nodes node)
  pub work : IsWorking s.planned.given t s.planned.hand
  pub planned : IsDraftedFsync s.planned
  pub own : HasFsync (calls_in s.planned.hand.view.mine) s.planned.hand.view.core s.planned.fsync.node.0 s.planned.fsync.stamp.0
  pub fresh : (other : Commitment) → IsOneOf (filter_map commit_told s.planned.hand.view.mine) other → other.number ≢ s.number
  pub above : NumberIsAbove s
  pub enough : count_by enters s.planned.drafted.draft.plan.change.seats ≤ length s.grant.inodes
  pub after_is : s.after ≡ after_commit s.planned.drafted.draft.plan.change s.grant
  pub low : (entry : OldEntry) → Contains s.after entry → entry.old.number < t.first.first

-- Then it may be told so.
abbrev pub FsyncsHaveLanded : Type 0
FsyncsHaveLanded = (t : FileState) (s : LandedFsync) → HasBecomeDurable t s
    → HasLanded s.planned.given s.planned.nodes (nodes_landed s) s.planned.hand (done_of s) (commitment_of s)
