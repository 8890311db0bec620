-- An fsync that has its stamp and waits for its answer.
use Rattle.std.specs.Prelude.{◌≡◌, ℕ, ◌+◌, ◌<◌, Bool, true, false, if◌then◌else◌, None, List, [], ◌∷◌, ◌++◌, Option, Some, MatchOption, length}
use mathlib.Core.List.{IsPrefix}
use Rattle.sfs_base.specs.declared.numbers.NodeId.{NodeId}
use Rattle.sfs_base.specs.declared.numbers.Stamp.{Stamp}
use Rattle.tree_laws.specs.declared.call.Call.TheVariants as call
use Rattle.tree_laws.specs.declared.history.Entry.{Entry}
use Rattle.tree_laws.specs.declared.reply.Code.{Code}
use Rattle.tree_laws.specs.declared.reply.Code.TheVariants as code
use Rattle.tree_laws.specs.declared.reply.Reply.{Reply}
use Rattle.tree_laws.specs.declared.reply.Reply.TheVariants as reply
use Rattle.tree_laws.specs.History.{tree_after}
use Rattle.tree_laws.specs.Tree.{is_alive}
use Rattle.stamp_table.specs.declared.event.Event.{Event}
use Rattle.stamp_table.specs.declared.event.Event.TheVariants.{Called}
use Rattle.stamp_table.specs.Events.{calls_in}
use Rattle.stamp_table.specs.Table.{entry_numbered, GivesAnswer, IsBetweenCalls, IsSameCore}
use Rattle.mem_values.specs.Start.{FileHand, FileState}
use Rattle.mem_values.specs.declared.cell.FileCell.{FileCell}
use Rattle.mem_values.specs.declared.fact.Fact.{Fact}
use Rattle.mem_values.specs.Laws.{MayMeet}
use Rattle.mem_values.specs.Stands.{StandsFile}
use Rattle.mem_calls.specs.Held.{file_held}
use Rattle.mem_calls.specs.Outcome.{IsAnswered}
use Rattle.fsync_stamp.specs.Adding.{AddsCall}

-- A core's fsync of a node has this stamp and waits for its answer. Till then want of memory stands in its place. The core holds no cell.
pub record Waits (t : FileState) (node : NodeId) (stamp : ℕ) (before after : FileHand) : Type 0 where
  pub table_is : after.table ≡ t.table
  pub first_is : after.view.first ≡ t.first
  pub core_is : after.view.core < length t.first.made
  pub holds_none : after.held ≡ []
  pub none_held : after.view.held ≡ []
  pub same : IsSameCore before after
  pub adds : AddsCall (call.Fsync node) reply.NoMemory before after
  pub stamped : adds.entry.stamp.0 ≡ stamp
  pub waits : after.waiting ≡ Some stamp

-- A core that waits has held cells, told facts, looked or let go, and holds no cell again: it waits on.
pub record WaitsOn (before after : FileHand) : Type 0 where
  pub same : IsSameCore before after
  pub first : after.view.first ≡ before.view.first
  pub entries : after.entries ≡ before.entries
  pub waiting : after.waiting ≡ before.waiting
  pub seen : IsPrefix before.view.seen after.view.seen
  pub holds_none : after.held ≡ []
  pub none_held : after.view.held ≡ []

-- A core's fsync of a live node stands in the history right behind a log that begins with all that the core had seen, and waits.
pub record StampsFsync (t : FileState) (node : NodeId) (stamp : ℕ) (before after : FileHand) : Type 0 where
  pub waits : Waits t node stamp before after
  pub log : List (Event Fact)
  pub entry : Entry
  pub entry_is : entry ≡ entry_numbered before.view.core (call.Fsync node) reply.NoMemory (length (calls_in log))
  pub stamp_is : stamp ≡ length (calls_in log)
  pub began : IsPrefix before.view.seen log
  pub seen : after.view.seen ≡ log ++ Called entry ∷ []
  pub entries : after.entries ≡ before.entries ++ entry ∷ []
  pub mine : after.view.mine ≡ before.view.mine ++ Called entry ∷ []
  pub alive : is_alive (tree_after t.first (calls_in log)) node.0 ≡ true
  pub room : after.room ≡ before.room
  pub spare : after.spare + 1 ≡ before.spare

-- whether a fault of a node as a directory is that it is not alive
abbrev pub is_dead_fault : Option Code → Bool
is_dead_fault (Some code.NoEntry) = true
is_dead_fault _ = false

-- the reply with which an fsync is stamped: want of memory for now, where its node is alive
abbrev pub reply_for_now : Bool → Reply
reply_for_now true = reply.NoMemory
reply_for_now false = reply.Error code.NoEntry

-- A core that held cells has stamped its fsync of a node, which is alive or not, and has let go of all.
pub record EndsStamp (t : FileState) (node : NodeId) (lives : Bool) (stamp : ℕ) (before after : FileHand) : Type 0 where
  pub table_is : after.table ≡ t.table
  pub first_is : after.view.first ≡ t.first
  pub core_is : after.view.core < length t.first.made
  pub holds_none : after.held ≡ []
  pub none_held : after.view.held ≡ []
  pub same : IsSameCore before after
  pub waiting : after.waiting ≡ (if lives then Some stamp else None)
  pub log : List (Event Fact)
  pub entry : Entry
  pub entry_is : entry ≡ entry_numbered before.view.core (call.Fsync node) (reply_for_now lives) (length (calls_in log))
  pub stamp_is : stamp ≡ length (calls_in log)
  pub began : IsPrefix before.view.seen log
  pub seen : after.view.seen ≡ log ++ Called entry ∷ []
  pub entries : after.entries ≡ before.entries ++ entry ∷ []
  pub mine : after.view.mine ≡ before.view.mine ++ Called entry ∷ []
  pub alive : is_alive (tree_after t.first (calls_in log)) node.0 ≡ lives
  pub room : after.room ≡ before.room + length before.held
  pub spare : after.spare + 1 ≡ before.spare

-- So it did by what it held: the tree at the stamp is one that this could meet, and the node's file, where it was held, stood there.
pub record StampsHeld (t : FileState) (nodes : ℕ) (node : NodeId) (lives : Bool) (stamp : ℕ) (before after : FileHand) : Type 0 where
  pub ends : EndsStamp t node lives stamp before after
  pub met : MayMeet before.view before.held (tree_after t.first (calls_in ends.log))
  pub stood : (value : FileCell) → node.0 < nodes → file_held nodes before.held node ≡ Some value → StandsFile t.first (calls_in ends.log) node.0 value

-- What the stamp of an fsync comes to: that of a live node waits, and that of a dead one has its answer.
abbrev pub ComesToStamp : FileState → NodeId → FileHand → FileHand → Option Stamp → Type 0
ComesToStamp t node before after result =
    MatchOption result (IsAnswered t (call.Fsync node) (reply.Error code.NoEntry) before after) (λ stamp. StampsFsync t node stamp.0 before after)

-- An fsync that has its answer: the core has made the call, and is between two calls.
pub record AnswersFsync (t : FileState) (node : NodeId) (reply : Reply) (before after : FileHand) : Type 0 where
  pub adds : AddsCall (call.Fsync node) reply before after
  pub between : IsBetweenCalls t after
  pub same : IsSameCore before after

-- An fsync that waits does so as long as its core makes no call and gives no answer.
abbrev pub WaitingLasts : Type 0
WaitingLasts = (t : FileState) (node : NodeId) (stamp : ℕ) (before mid after : FileHand) → Waits t node stamp before mid → WaitsOn mid after
    → Waits t node stamp before after

-- An answer ends the waiting.
abbrev pub AnswersEndWaiting : Type 0
AnswersEndWaiting = (t : FileState) (node : NodeId) (reply : Reply) (ack : Option ℕ) (before mid after : FileHand)
    → (waits : (stamp : ℕ) × Waits t node stamp before mid) → GivesAnswer waits.0 reply ack mid after → AnswersFsync t node reply before after
