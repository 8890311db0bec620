-- When a core may tell what it does, in the words of what it holds; each law is proved by a function of the module laws.
use Rattle.std.specs.Prelude.{◌≡◌, ◌≢◌, ◌<◌, ◌≤◌, ◌∷◌, ◌++◌, ℕ, List, length, map, filter_map, Option, Some, Vec, true, IsSome}
use Rattle.std.specs.declared.alloc.Global.{Global}
use Rattle.std.specs.FinMap.{get}
use Rattle.sfs_base.specs.declared.numbers.NodeId.{NodeId}
use Rattle.sfs_base.specs.declared.numbers.Stamp.{Stamp}
use Rattle.sfs_base.specs.declared.numbers.CoreId.{CoreId}
use Rattle.tree_laws.specs.Tree.{TreeState, is_directory}
use Rattle.tree_laws.specs.NameRow.{node_number}
use Rattle.tree_laws.specs.declared.history.Entry.{Entry}
use Rattle.tree_laws.specs.History.{tree_after}
use Rattle.tree_laws.specs.Laws.{IsSoundTree}
use Rattle.disk_nodes.specs.OldKept.{OldKept}
use Rattle.cut_laws.specs.Rules.{IsOneOf}
use Rattle.stamp_table.specs.declared.event.Event.{Event}
use Rattle.stamp_table.specs.declared.event.Event.TheVariants.{Told}
use Rattle.stamp_table.specs.declared.view.View.{View}
use Rattle.stamp_table.specs.declared.held.HeldCell.{HeldCell}
use Rattle.stamp_table.specs.Events.{calls_in}
use Rattle.stamp_table.specs.Rule.{Has}
use Rattle.stamp_table.specs.Table.{MayTell}
use Rattle.mem_values.specs.declared.cell.Cell.{Cell}
use Rattle.mem_values.specs.declared.cell.Cell.TheVariants as cell
use Rattle.mem_values.specs.declared.cell.Pending.{Pending}
use Rattle.mem_values.specs.declared.cell_id.CellId.{CellId}
use Rattle.mem_values.specs.declared.cell_id.CellId.TheVariants as id
use Rattle.mem_values.specs.declared.fact.Fact.{Fact}
use Rattle.mem_values.specs.declared.fact.Fact.TheVariants.{Committed, Trimmed}
use Rattle.mem_values.specs.declared.fact.HeldNode.{HeldNode}
use Rattle.mem_values.specs.Places.{node_count, cell_place, IsCell}
use Rattle.mem_values.specs.Account.{Commitment, commit_told, account_of, held_by, last_writer}
use Rattle.mem_values.specs.Stands.{StandsAt, IsTrimmedFor}
use Rattle.mem_values.specs.Facts.{HasFsync, IsBelowInodes, KeepsRoot, RaisesMember, IsLawfulLog}
use Rattle.mem_values.specs.Laws.{KnowsCell}

-- A core knows a value of a cell that has something.
pub record KnowsOf (given : ℕ → Option OldKept) (view : View TreeState (Event Fact)) (which : CellId) (Has : Cell → Type 0) : Type 0 where
  pub known : HeldCell Cell
  pub knows : KnowsCell given view known
  pub is_cell : IsCell (node_count view.first) (length view.first.made) which
  pub there : cell_place (node_count view.first) which ≡ known.place
  pub has : Has known.value

-- What a commit writes of a node follows what was flushed of it: its number is greater, the cut does not fall, and that of a directory which
-- is no member stays.
pub record FollowsFlushed (first : TreeState) (calls : List Entry) (commit : Commitment) (held : HeldNode) (pending : Pending) : Type 0 where
  pub later : pending.last < commit.number
  pub rises : pending.cut.0 ≤ held.new_cut.0
  pub stays : is_directory (tree_after first calls) held.node.0 ≡ true → (IsOneOf commit.members held.node.0 → ⊥) → held.new_cut.0 ≡ pending.cut.0

-- so it is of the value of a cell
abbrev pub FollowsValue : TreeState → List Entry → Commitment → HeldNode → Cell → Type 0
FollowsValue first calls commit held (cell.Pending pending) = FollowsFlushed first calls commit held pending.value
FollowsValue first calls commit held _ = ⊥

-- a commit that a core tells
abbrev pub commit_by : ℕ → ℕ → NodeId → Stamp → Vec NodeId Global → Vec HeldNode Global → Commitment
commit_by core number node stamp members held = record {
  core = core;
  number = number;
  node = node.0;
  stamp = stamp.0;
  members = map node_number members.items;
  held = held.items;
}

-- What a core asks that tells a commit: it is for an fsync of its own that waits, with a number that it has not used; its nodes are nodes of
-- the tree; it holds what was flushed of each, which what the commit writes follows; its members are directories that it raises; and it gives each
-- node one of the inodes or none, the root one.
pub record MayTellCommit (given : ℕ → Option OldKept) (view : View TreeState (Event Fact)) (commit : Commitment) : Type 0 where
  pub own : HasFsync (calls_in view.mine) view.core commit.node commit.stamp
  pub fresh : (other : Commitment) → IsOneOf (filter_map commit_told view.mine) other → other.number ≢ commit.number
  pub nodes : (held : HeldNode) → IsOneOf commit.held held → IsSome (get (tree_after view.first (calls_in view.seen)).nodes held.node.0)
  pub follows : (held : HeldNode) → IsOneOf commit.held held
      → KnowsOf given view (id.Pending held.node) (FollowsValue view.first (calls_in view.seen) commit held)
  pub within : (held : HeldNode) → IsOneOf commit.held held → held.new_cut.0 ≤ length (calls_in view.seen)
  pub raises : (directory : ℕ) → IsOneOf commit.members directory → RaisesMember commit directory
  pub directories : (directory : ℕ) → IsOneOf commit.members directory → is_directory (tree_after view.first (calls_in view.seen)) directory ≡ true
  pub inodes : (held : HeldNode) → IsOneOf commit.held held → IsBelowInodes view.first.first held.new
  pub root : (held : HeldNode) → IsOneOf commit.held held → KeepsRoot held.node.0 held.new

-- A commit may be told by a core that asks this.
abbrev pub CommitsMayBeTold : Type 0
CommitsMayBeTold =
    (given : ℕ → Option OldKept) (view : View TreeState (Event Fact)) (number : ℕ) (node : NodeId) (stamp : Stamp) (members : Vec NodeId Global)
    (held : Vec HeldNode Global)
    → IsSoundTree view.first → MayTellCommit given view (commit_by view.core number node stamp members held)
    → MayTell (IsLawfulLog given) (StandsAt given) view (Committed number node stamp members held)

-- A core that holds a log may tell that it is trimmed for a commit of its own.
abbrev pub TrimsMayBeTold : Type 0
TrimsMayBeTold = (given : ℕ → Option OldKept) (view : View TreeState (Event Fact)) (commit : Commitment) (number : ℕ) (part : CoreId)
    → IsOneOf (filter_map commit_told view.mine) commit → commit.core ≡ view.core → commit.number ≡ number
    → Has view.held (cell_place (node_count view.first) (id.Part part))
    → MayTell (IsLawfulLog given) (StandsAt given) view (Trimmed number part)

-- As long as a part is not trimmed for a commit with a member, the commit is the last one that holds each of its nodes.
abbrev pub CommitsStayLast : Type 0
CommitsStayLast =
    (given : ℕ → Option OldKept) (first : TreeState) (before after : List (Event Fact)) (core : CoreId) (number : ℕ) (node : NodeId) (stamp : Stamp)
    (members : Vec NodeId Global) (held : Vec HeldNode Global) (part of member : ℕ) (what : HeldNode)
    → let commit = commit_by core.0 number node stamp members held in let log = before ++ Told core (Committed number node stamp members held) ∷ after in
    IsLawfulLog given first log → part < length first.made → IsOneOf commit.members member → (IsTrimmedFor (account_of log) commit part → ⊥)
    → held_by commit of ≡ Some what
    → last_writer of (account_of log).commits ≡ Some (commit, what)
