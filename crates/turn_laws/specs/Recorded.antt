-- When the turns of a run say what its fsyncs did.
use Rattle.std.specs.Prelude.{◌≡◌, ℕ, ◌≤◌, ◌==◌, List, [], ◌∷◌, Option, Some, None, if◌then◌else◌}
use Rattle.std.specs.Option.{option_or}
use Rattle.sfs_base.specs.declared.numbers.NodeId.{NodeId}
use Rattle.tree_laws.specs.declared.call.Call.TheVariants as call
use Rattle.tree_laws.specs.declared.history.Entry.{Entry}
use Rattle.tree_laws.specs.declared.reply.Reply.{Reply}
use Rattle.tree_laws.specs.declared.reply.Reply.TheVariants as reply
use Rattle.tree_laws.specs.declared.turns.Turn.{Turn}
use Rattle.tree_laws.specs.declared.turns.TurnAct.{TurnAct}
use Rattle.tree_laws.specs.declared.turns.TurnAct.TheVariants as act
use Rattle.tree_laws.specs.Tree.{TreeState}
use Rattle.cut_laws.specs.Closure.{Flush, HasLiveNode}
use Rattle.cut_laws.specs.Rules.{IsOneOf}
use Rattle.turn_laws.specs.Need.{ImageState}
use Rattle.turn_laws.specs.Books.{Books, books_of, AreTurns}

-- An entry of a history is an fsync of a node, which is alive at its stamp.
pub record IsLiveFsync (first : TreeState) (history : List Entry) (entry : Entry) (node : NodeId) : Type 0 where
  pub among : IsOneOf history entry
  pub asked : entry.call ≡ call.Fsync node
  pub alive : HasLiveNode first history (record { node = node.0; stamp = entry.stamp.0 })

-- A turn is of such an fsync: it has its core, its node and its stamp.
pub record IsOfFsync (first : TreeState) (history : List Entry) (turn : Turn) : Type 0 where
  pub entry : Entry
  pub fsync : IsLiveFsync first history entry turn.node
  pub core : turn.core ≡ entry.core
  pub stamp : turn.stamp ≡ entry.stamp

-- the last turn of the fsync with this stamp
abbrev pub last_turn : ℕ → List Turn → Option Turn
last_turn stamp [] = None
last_turn stamp (turn ∷ turns) = option_or (last_turn stamp turns) (if turn.stamp.0 == stamp then Some turn else None)

-- How an fsync is answered whose last turn is this one: as its act says. No fsync ends with a turn after which its commit goes on.
abbrev pub EndsWith : Option ℕ → TurnAct → Turn → Reply → Option ℕ → Type 0
EndsWith failed act.Granted turn given ack = ⊥
EndsWith failed act.GivenBack turn given ack = given ≡ reply.NoMemory
EndsWith failed (act.Short kind asked have) turn given ack = given ≡ reply.NoSpace kind asked have
EndsWith failed act.Halted turn given ack = (faults : ℕ) × (failed ≡ Some faults) × (given ≡ reply.Stopped faults)
EndsWith failed act.CutAt turn given ack = ⊥
EndsWith failed act.Opened turn given ack = ⊥
EndsWith failed act.Durable turn given ack = (given ≡ reply.Ok) × (ack ≡ Some turn.now)
EndsWith failed act.Fail turn given ack = given ≡ reply.DiskFailed

-- how an fsync is answered by its last turn, where it has one
abbrev pub EndsBy : Option ℕ → Option Turn → Reply → Option ℕ → Type 0
EndsBy failed None given ack = given ≡ reply.NoMemory
EndsBy failed (Some turn) given ack = EndsWith failed turn.act turn given ack

-- each fsync of a live node ends by its last turn
abbrev pub EachEnds : TreeState → List Entry → List Turn → Option ℕ → Type 0
EachEnds first history turns failed =
    (entry : Entry) (node : NodeId) → IsLiveFsync first history entry node → EndsBy failed (last_turn entry.stamp.0 turns) entry.reply entry.ack

-- The turns of a run are recorded: they begin with all calls told, none waits at the end, each is of an fsync of a live node, and each such
-- fsync ends by its last turn. The counts of faults go from that at the entry to that at the exit.
pub record IsRecorded (first : TreeState) (history : List Entry) (image : ImageState) (entry_faults exit_faults : ℕ) (turns : List Turn) : Type 0 where
  pub before : ℕ
  pub since : entry_faults ≤ before
  pub books : Books
  pub kept : AreTurns before exit_faults (books_of first history image) turns books
  pub settled : books.waiting ≡ []
  pub each : (turn : Turn) → IsOneOf turns turn → IsOfFsync first history turn
  pub ends : EachEnds first history turns books.failed
