-- What each core and its pen agree on of the core's fsyncs and their turns, and how the record of turns has them.
use Rattle.std.specs.Prelude.{◌≡◌, ◌≢◌, ◌⊎◌, ◌<◌, ◌==◌, ◌∷◌, ◌++◌, ℕ, List, [], length, filter, flat_map, slice_get, Option, Some, None}
use Rattle.std.specs.Option.{option_or}
use Rattle.sfs_base.specs.declared.numbers.NodeId.{NodeId}
use Rattle.tree_laws.specs.declared.history.Entry.{Entry}
use Rattle.tree_laws.specs.declared.reply.Reply.TheVariants as reply
use Rattle.tree_laws.specs.declared.turns.Turn.{Turn}
use Rattle.tree_laws.specs.declared.turns.TurnAct.{TurnAct}
use Rattle.tree_laws.specs.declared.turns.TurnAct.TheVariants as act
use Rattle.tree_laws.specs.Tree.{TreeState}
use Rattle.cut_laws.specs.Rules.{IsOneOf}
use Rattle.turn_laws.specs.Books.{CountsFaults}
use Rattle.turn_laws.specs.Recorded.{IsLiveFsync}
use Rattle.turn_laws.specs.Ways.{GoesWay}

-- the count of faults of a turn that fails a commit
abbrev pub failure_by : TurnAct → ℕ → Option ℕ
failure_by act.Fail faults = Some faults
failure_by _ faults = None

-- the count of faults of the first turn that fails a commit
abbrev pub failed_in : List Turn → Option ℕ
failed_in [] = None
failed_in (turn ∷ turns) = option_or (failure_by turn.act turn.faults) (failed_in turns)

-- the turns of a core, in their order
abbrev pub turns_of_core : ℕ → List Turn → List Turn
turns_of_core core turns = filter (λ turn. turn.core.0 == core) turns

-- One fsync as its pen has it: its stamp, and its turns in their order.
pub record FsyncTurns : Type 0 where
  pub stamp : ℕ
  pub turns : List Turn

-- A turn has the core, the node and the stamp of an entry, an fsync of this node.
pub record IsTurnOf (entry : Entry) (node : NodeId) (turn : Turn) : Type 0 where
  pub core_is : turn.core ≡ entry.core
  pub node_is : turn.node ≡ node
  pub stamp_is : turn.stamp ≡ entry.stamp

-- A pen has this of an fsync of its core: an entry of the history, of a live node; some turns, which are that fsync's; they go one of the ways
-- with its answer. The moment of its Durable is its acknowledgement, and the count that it was stopped with is that of the first failure.
pub record IsPenFsync (first : TreeState) (history : List Entry) (turns : List Turn) (core : ℕ) (one : FsyncTurns) : Type 0 where
  pub entry : Entry
  pub node : NodeId
  pub live : IsLiveFsync first history entry node
  pub own_core : entry.core.0 ≡ core
  pub own_stamp : entry.stamp.0 ≡ one.stamp
  pub each : (turn : Turn) → IsOneOf one.turns turn → IsTurnOf entry node turn
  pub some : one.turns ≢ []
  pub way : GoesWay one.turns entry.reply
  pub ack : (turn : Turn) → IsOneOf one.turns turn → turn.act ≡ act.Durable → entry.ack ≡ Some turn.now
  pub stopped : (faults : ℕ) → entry.reply ≡ reply.Stopped faults → failed_in turns ≡ Some faults

-- No two fsyncs of a pen have one stamp.
abbrev pub FsyncsDiffer : List FsyncTurns → Type 0
FsyncsDiffer [] = Unit {0}
FsyncsDiffer (one ∷ fsyncs) = ((other : FsyncTurns) → IsOneOf fsyncs other → other.stamp ≢ one.stamp) × FsyncsDiffer fsyncs

-- A pen has this of the fsync with a stamp.
pub record HasTurnsFor (fsyncs : List FsyncTurns) (stamp : ℕ) : Type 0 where
  pub one : FsyncTurns
  pub among : IsOneOf fsyncs one
  pub own : one.stamp ≡ stamp

-- A core and its pen agree: what the pen has are fsyncs of the core, each once; and each fsync of the core that it does not have was answered
-- NoMemory, before its first turn.
pub record PenAgrees (first : TreeState) (history : List Entry) (turns : List Turn) (core : ℕ) (fsyncs : List FsyncTurns) : Type 0 where
  pub each : (one : FsyncTurns) → IsOneOf fsyncs one → IsPenFsync first history turns core one
  pub once : FsyncsDiffer fsyncs
  pub others : (entry : Entry) (node : NodeId) → IsLiveFsync first history entry node → entry.core.0 ≡ core
      → (entry.reply ≡ reply.NoMemory) ⊎ HasTurnsFor fsyncs entry.stamp.0

-- The record has the turns of each pen in the pen's order, and no others.
pub record MergesPens (turns : List Turn) (pens : List (List FsyncTurns)) : Type 0 where
  pub own : (core : ℕ) (fsyncs : List FsyncTurns) → slice_get pens core ≡ Some fsyncs → turns_of_core core turns ≡ flat_map (λ one. one.turns) fsyncs
  pub cores : (turn : Turn) → IsOneOf turns turn → turn.core.0 < length pens

-- The count of faults of each turn is right where it stands: `before` until a failure, and at most `most`.
abbrev pub CountAll : ℕ → ℕ → List Turn → Type 0
CountAll before most turns = (front back : List Turn) (turn : Turn) → turns ≡ front ++ turn ∷ back
    → CountsFaults before most (failed_in front) turn.act turn.faults

-- All cores agree with their pens, and the record of turns at the disk has the pens' turns, with their counts of faults.
pub record AgreesAll (first : TreeState) (history : List Entry) (before most : ℕ) (turns : List Turn) (pens : List (List FsyncTurns)) : Type 0 where
  pub cores : length pens ≡ length first.made
  pub each : (core : ℕ) (fsyncs : List FsyncTurns) → slice_get pens core ≡ Some fsyncs → PenAgrees first history turns core fsyncs
  pub merges : MergesPens turns pens
  pub counts : CountAll before most turns
