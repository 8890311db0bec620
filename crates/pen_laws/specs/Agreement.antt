-- What a core and its pen agree on, in words of theirs alone: of the core its entries and what it has seen, of the pen the turns that it has seen.
use Rattle.std.specs.Prelude.{◌≡◌, ◌≢◌, ◌⊎◌, ◌<◌, ℕ, false, List, [], Some}
use Rattle.sfs_base.specs.declared.numbers.NodeId.{NodeId}
use Rattle.tree_laws.specs.declared.call.Call.TheVariants as call
use Rattle.tree_laws.specs.declared.history.Entry.{Entry}
use Rattle.tree_laws.specs.declared.reply.Reply.TheVariants as reply
use Rattle.tree_laws.specs.declared.turns.Turn.{Turn}
use Rattle.tree_laws.specs.declared.turns.TurnAct.TheVariants as act
use Rattle.cut_laws.specs.Rules.{IsOneOf}
use Rattle.turn_laws.specs.Ways.{GoesWay}
use Rattle.merge_laws.specs.Pens.{FsyncTurns, IsTurnOf, HasTurnsFor, FsyncsDiffer, failed_in}
use Rattle.stamp_table.specs.Answered.{is_refusal}
use Rattle.mem_values.specs.Start.{FileHand}
use Rattle.fsync_stamp.specs.Adding.{calls_seen}

-- An entry of a core is an fsync of a node that was not refused; so the node was alive.
pub record IsServedFsync (hand : FileHand) (entry : Entry) (node : NodeId) : Type 0 where
  pub among : IsOneOf hand.entries entry
  pub asked : entry.call ≡ call.Fsync node
  pub served : is_refusal entry.reply ≡ false

-- A pen has some turns of an fsync, which are this entry's and go one of the ways with its answer: the moment of the Durable one is its acknowledgement, and
-- where it was stopped, the count is that of the first failure that the pen has seen.
pub record HasTurnsOf (seen : List Turn) (entry : Entry) (node : NodeId) (one : FsyncTurns) : Type 0 where
  pub own_stamp : entry.stamp.0 ≡ one.stamp
  pub each : (turn : Turn) → IsOneOf one.turns turn → IsTurnOf entry node turn
  pub some : one.turns ≢ []
  pub way : GoesWay one.turns entry.reply
  pub ack : (turn : Turn) → IsOneOf one.turns turn → turn.act ≡ act.Durable → entry.ack ≡ Some turn.now
  pub stopped : (faults : ℕ) → entry.reply ≡ reply.Stopped faults → failed_in seen ≡ Some faults

-- A core and its pen agree on an fsync that has turns: it is one of the core's, which has seen it.
pub record AgreeOn (hand : FileHand) (seen : List Turn) (one : FsyncTurns) : Type 0 where
  pub entry : Entry
  pub node : NodeId
  pub own : IsServedFsync hand entry node
  pub past : entry.stamp.0 < calls_seen hand
  pub has : HasTurnsOf seen entry node one

-- They agree: on each fsync that the pen has turns of, of which no two have one stamp; and each other fsync that was not refused has the answer NoMemory.
pub record Agree (hand : FileHand) (seen : List Turn) (fsyncs : List FsyncTurns) : Type 0 where
  pub each : (one : FsyncTurns) → IsOneOf fsyncs one → AgreeOn hand seen one
  pub once : FsyncsDiffer fsyncs
  pub others : (entry : Entry) (node : NodeId) → IsServedFsync hand entry node → (entry.reply ≡ reply.NoMemory) ⊎ HasTurnsFor fsyncs entry.stamp.0
