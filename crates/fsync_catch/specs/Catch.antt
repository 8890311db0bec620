-- What a core catches for an fsync that waits: values that it holds, and what it gathered of all logs since it held them.
use Rattle.std.specs.Prelude.{◌≡◌, if◌then◌else◌, ◌∷◌, ◌<◌, ◌+◌, ◌*◌, ℕ, List, [], map, Option, None, All, Some, is_some}
use mathlib.Core.List.{IsPrefix}
use Rattle.sfs_base.specs.declared.numbers.NodeId.{NodeId}
use Rattle.sfs_base.specs.Listed.{is_listed}
use Rattle.sfs_base.specs.declared.numbers.Stamp.{Stamp}
use Rattle.tree_laws.specs.NameRow.{node_number}
use Rattle.tree_laws.specs.History.{IsLegal}
use Rattle.disk_nodes.specs.OldKept.{OldKept}
use Rattle.dep_closure.specs.Gathered.{IsOrderly}
use Rattle.flush_plan.specs.Concerned.{IsConcernOf}
use Rattle.stamp_table.specs.Events.{calls_in}
use Rattle.stamp_table.specs.Ascending.{LiesAbove}
use Rattle.stamp_table.specs.declared.event.Event.{Event}
use Rattle.mem_values.specs.Start.{FileHand}
use Rattle.mem_values.specs.declared.cell.Pending.{Pending}
use Rattle.mem_values.specs.declared.fact.Fact.{Fact}
use Rattle.mem_values.specs.Facts.{HasFsync, IsLawfulLog}
use Rattle.mem_values.specs.Stands.{StandsPending}
use Rattle.mem_values.specs.Account.{account_of}
use Rattle.note_laws.specs.Run.{TableRun, calls_of}
use Rattle.note_laws.specs.Notes.{CoreNotes, HasNotedAll}
use Rattle.note_laws.specs.Merged.{AreMergedFor}
use Rattle.mem_calls.specs.Held.{pending_held}
use Rattle.fsync_look.specs.Look.{IsBelow, HoldsNodes}
use Rattle.fsync_gather.specs.Gathers.{GathersNodes}
use Rattle.fsync_catch.specs.declared.looking.Caught.{Caught}
use Rattle.fsync_catch.specs.declared.looking.WaitingFsync.{WaitingFsync}

-- a core has seen its fsync stamped, which waits for its answer
abbrev pub HasItsFsync : FileHand → WaitingFsync → Type 0
HasItsFsync hand fsync = HasFsync (calls_in hand.view.seen) hand.view.core fsync.node.0 fsync.stamp.0

-- A core goes on with an fsync: it has held cells or let some go, looked, and made room. It made no call and told nothing.
pub record GoesOn (before after : FileHand) : Type 0 where
  pub frame : record after { view = before.view; held = before.held; room = before.room; spare = before.spare } ≡ before
  pub view : record after.view { seen = before.view.seen; held = before.view.held } ≡ before.view
  pub seen : IsPrefix before.view.seen after.view.seen

-- A core holds nothing.
pub record LetsAllGo (hand : FileHand) : Type 0 where
  pub holds_none : hand.held ≡ []
  pub none_held : hand.view.held ≡ []

-- what a core saw of the nodes of a list, whose values it holds
abbrev pub saw_of : ℕ → List NodeId → FileHand → ℕ → Option Pending
saw_of nodes list hand node = if is_listed (map node_number list) node then pending_held nodes hand.held (record { 0 = node }) else None

-- the run of the table as far as a core has seen it
abbrev pub run_seen : (ℕ → Option OldKept) → FileHand → TableRun
run_seen given hand = record { given = given; first = hand.view.first; log = hand.view.seen }

-- What a core looked at for its fsync while it held what was flushed of some nodes: it noted each core's log at a moment up to now at which all that it holds
-- stood; what it gathered is merged of copies of these which keep what a look at its nodes asks for, and has of its nodes what it holds; and what the fsync
-- concerns by that are nodes of the table. What it has seen is legal and lawful.
pub record IsLook (given : ℕ → Option OldKept) (nodes : ℕ) (fsync : WaitingFsync) (list : List NodeId) (hand : FileHand) (caught : Caught) : Type 0 where
  pub noted : CoreNotes
  pub core_is : noted.core ≡ hand.view.core
  pub node_is : noted.node ≡ fsync.node.0
  pub stamp_is : noted.stamp ≡ fsync.stamp.0
  pub saw : noted.pending ≡ saw_of nodes list hand
  pub notes : HasNotedAll (run_seen given hand) noted
  pub orderly : IsOrderly caught.gathered
  pub merged : AreMergedFor noted caught.gathered.logs.items
  pub gathers : GathersNodes nodes hand.held list caught.gathered
  pub concern_is : IsConcernOf fsync.node fsync.stamp caught.gathered caught.concern
  pub within : All (IsBelow nodes) caught.concern.nodes.items
  pub legal : IsLegal hand.view.first (calls_of (run_seen given hand))
  pub lawful : IsLawfulLog given hand.view.first hand.view.seen

-- A core has caught what its fsync concerns: it holds what was flushed of exactly these nodes, and looked while it held that.
pub record IsCaught (given : ℕ → Option OldKept) (nodes : ℕ) (fsync : WaitingFsync) (hand : FileHand) (caught : Caught) : Type 0 where
  pub holds : HoldsNodes nodes caught.concern.nodes.items hand
  pub look : IsLook given nodes fsync caught.concern.nodes.items hand caught

-- the stamp up to which something was flushed of a node, where it has an inode
abbrev pub cut_if_inode : Option Pending → Option Stamp
cut_if_inode None = None
cut_if_inode (Some value) = if is_some value.old then Some value.cut else None

-- A core holds what was flushed of its fsync's node, which has an inode, and nothing else: up to this stamp something was flushed of it. That stood for all
-- that the core has seen, which has the fsync's call, and is legal and lawful. There is room for a log, which lies above.
pub record IsCaughtAlone (given : ℕ → Option OldKept) (nodes : ℕ) (fsync : WaitingFsync) (hand : FileHand) (cut : Stamp) : Type 0 where
  pub value : Pending
  pub kept : OldKept
  pub holds : HoldsNodes nodes (fsync.node ∷ []) hand
  pub held : pending_held nodes hand.held fsync.node ≡ Some value
  pub has : value.old ≡ Some kept
  pub cut_is : value.cut ≡ cut
  pub stamped : HasItsFsync hand fsync
  pub stands : StandsPending given hand.view.first (account_of hand.view.seen) fsync.node.0 value
  pub legal : IsLegal hand.view.first (calls_of (run_seen given hand))
  pub lawful : IsLawfulLog given hand.view.first hand.view.seen
  pub room : 0 < hand.room
  pub below : LiesAbove (32 + 10 * nodes) hand.view.held

-- A core holds nothing: since it began it held what was flushed of its fsync's node, and that has no inode. It stood for all that the core had seen then.
pub record LacksAlone (given : ℕ → Option OldKept) (fsync : WaitingFsync) (before after : FileHand) : Type 0 where
  pub lets : LetsAllGo after
  pub at : List (Event Fact)
  pub begun : IsPrefix before.view.seen at
  pub since : IsPrefix at after.view.seen
  pub value : Pending
  pub stands : StandsPending given after.view.first (account_of at) fsync.node.0 value
  pub lacks : value.old ≡ None
