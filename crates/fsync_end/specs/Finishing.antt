-- The end of an fsync: its commit is told, the new values are in their cells, all logs are trimmed, and all goes home.
use Rattle.std.specs.Prelude.{◌≡◌, ℕ, ◌<◌, List, [], ◌∷◌, ◌++◌, length, map, Option, Some}
use mathlib.Core.List.{IsPrefix}
use Rattle.sfs_base.specs.declared.numbers.NodeId.{NodeId}
use Rattle.tree_laws.specs.Tree.{TreeState}
use Rattle.tree_laws.specs.History.{tree_after}
use Rattle.tree_laws.specs.NameRow.{node_number, number_of}
use Rattle.tree_laws.specs.declared.history.Entry.{Entry}
use Rattle.tree_laws.specs.declared.reply.Reply.TheVariants as reply
use Rattle.disk_nodes.specs.OldKept.{OldKept}
use Rattle.cut_laws.specs.Rules.{IsOneOf}
use Rattle.stamp_table.specs.declared.event.Event.{Event}
use Rattle.stamp_table.specs.declared.held.HeldCell.{HeldCell}
use Rattle.stamp_table.specs.Rule.{Has, entries_by}
use Rattle.stamp_table.specs.Events.{event_core, told_by, calls_in, IsLawful}
use Rattle.stamp_table.specs.Table.{with_answer, with_values}
use Rattle.mem_values.specs.Start.{FileHand, FileState}
use Rattle.mem_values.specs.declared.cell.Cell.{Cell}
use Rattle.mem_values.specs.declared.cell.Pending.{Pending}
use Rattle.mem_values.specs.declared.cell_id.CellId.TheVariants as id
use Rattle.mem_values.specs.declared.fact.Fact.{Fact}
use Rattle.mem_values.specs.declared.fact.HeldNode.{HeldNode}
use Rattle.mem_values.specs.Places.{cell_place}
use Rattle.mem_values.specs.Account.{Commitment, commit_told, held_by}
use Rattle.mem_values.specs.Stands.{Flushed, StandsAt}
use Rattle.mem_values.specs.Facts.{IsLawfulLog}
use Rattle.mem_values.specs.Telling.{MayTellCommit}
use Rattle.home_laws.specs.Laws.{IsNodeOf}
use Rattle.mem_calls.specs.Held.{as_pending}
use Rattle.mem_calls.specs.Working.{IsWorking}
use Rattle.fsync_end.specs.Trimming.{trim_events}
use Rattle.fsync_end.specs.declared.finishing.Ending.{Ending}

-- A held cell has what was flushed of a node of the tree, and a new value is what a commit writes of it: the node's new cut, the commit's number
-- and what the disk has then. In which directory the node was made stays.
pub record IsWritten (tree : TreeState) (nodes : ℕ) (commit : Commitment) (cell : HeldCell Cell) (value : Cell) : Type 0 where
  pub node : NodeId
  pub within : node.0 < nodes
  pub there : cell.place ≡ cell_place nodes (id.Pending node)
  pub what : HeldNode
  pub holds : held_by commit node.0 ≡ Some what
  pub old : Pending
  pub old_is : as_pending cell.value ≡ Some old
  pub new : Pending
  pub new_is : as_pending value ≡ Some new
  pub wrote : ◌≡◌ {A = Flushed} (record { cut = new.cut.0; last = new.last; old = new.old })
      (record { cut = what.new_cut.0; last = commit.number; old = what.new })
  pub made_in : number_of new.made_in ≡ number_of old.made_in
  pub is_node : IsNodeOf tree node.0

-- so it is of each held cell and each new value, in their order
abbrev pub AreWritten : TreeState → ℕ → Commitment → List (HeldCell Cell) → List Cell → Type 0
AreWritten tree nodes commit [] [] = Unit {0}
AreWritten tree nodes commit [] (value ∷ values) = ⊥
AreWritten tree nodes commit (cell ∷ cells) [] = ⊥
AreWritten tree nodes commit (cell ∷ cells) (value ∷ values) = IsWritten tree nodes commit cell value × AreWritten tree nodes commit cells values

-- A fact tells a commit that ends so: with its number, the node and the stamp of its fsync, and its members.
pub record TellsEnding (core : ℕ) (fact : Fact) (ending : Ending) (commit : Commitment) : Type 0 where
  pub tells : commit_told (told_by core fact 0) ≡ Some commit
  pub numbered : commit.number ≡ ending.number
  pub of_node : commit.node ≡ ending.node.0
  pub stamped : commit.stamp ≡ ending.stamp.0
  pub members_are : commit.members ≡ map node_number ending.members.items

-- A core may end its fsync so: it may tell the commit; with what it knows of its cells in them, whose values may be out meanwhile, it is a working core that
-- holds what was flushed of the commit's nodes; and the new values are what the commit writes.
pub record MayEnd (given : ℕ → Option OldKept) (t : FileState) (nodes : ℕ) (fact : Option Fact) (ending : Ending) (hand : FileHand) : Type 0 where
  pub told : Fact
  pub told_is : fact ≡ Some told
  pub commit : Commitment
  pub tells : TellsEnding hand.view.core told ending commit
  pub may : MayTellCommit given hand.view commit
  pub known : List Cell
  pub as_many : length known ≡ length hand.held
  pub work : IsWorking given t (record hand { held = with_values known hand.held })
  pub written : AreWritten (tree_after t.first (calls_in hand.view.seen)) nodes commit (with_values known hand.held) ending.values.items

-- how many logs are trimmed for a commit with these members: all, and none where it has no member
abbrev pub logs_trimmed : List NodeId → ℕ → ℕ
logs_trimmed [] cores = 0
logs_trimmed (member ∷ members) cores = cores

-- A core told a fact behind a log that goes on from what it had seen; what stood for a cell that it held stood there too.
pub record IsToldBehind (given : ℕ → Option OldKept) (told : Fact) (before after : FileHand) : Type 0 where
  pub log : List (Event Fact)
  pub since : IsPrefix before.view.seen log
  pub there : IsPrefix (log ++ told_by before.view.core told 0 ∷ []) after.view.seen
  pub stood : (place : ℕ) (value : Cell) → Has before.view.held place → StandsAt given before.view.first before.view.seen place value
      → StandsAt given before.view.first log place value

-- A core has ended its fsync: it told the commit, and that each log is trimmed for it where it has a member; it holds nothing; and its last entry has
-- its answer with the moment of the acknowledgement.
pub record Finishes (given : ℕ → Option OldKept) (cores : ℕ) (told : Fact) (ending : Ending) (before after : FileHand) : Type 0 where
  pub frame : record after { view = before.view; entries = before.entries; waiting = before.waiting; held = before.held; room = before.room } ≡ before
  pub view : record after.view { seen = before.view.seen; mine = before.view.mine; held = before.view.held } ≡ before.view
  pub seen : IsPrefix before.view.seen after.view.seen
  pub lawful : IsLawful (IsLawfulLog given) after.view.first after.view.seen
  pub own : after.view.mine ≡ entries_by event_core after.view.core after.view.seen
  pub mine : after.view.mine ≡ (before.view.mine ++ told_by before.view.core told 0 ∷ [])
      ++ trim_events before.view.core ending.number (logs_trimmed ending.members.items cores)
  pub told_behind : IsToldBehind given told before after
  pub answered : (front : List Entry) × (last : Entry) × (last.stamp.0 ≡ ending.stamp.0) × (before.entries ≡ front ++ last ∷ [])
      × (after.entries ≡ front ++ with_answer last reply.Ok (Some ending.ack) ∷ [])
