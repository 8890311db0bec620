-- Lists of fsyncs of a history that may have raised the cut of an image.
use Rattle.std.specs.Prelude.{◌≡◌, ◌≢◌, ℕ, ◌≤◌, List, [], ◌∷◌}
use Rattle.sfs_base.specs.declared.numbers.NodeId.{NodeId}
use Rattle.tree_laws.specs.declared.call.Call.TheVariants as call
use Rattle.tree_laws.specs.declared.history.Entry.{Entry}
use Rattle.tree_laws.specs.declared.reply.Reply.{Reply}
use Rattle.tree_laws.specs.declared.reply.Reply.TheVariants as reply
use Rattle.cut_laws.specs.Rules.{IsOneOf}
use Rattle.cut_laws.specs.Closure.{Flush}
use Rattle.cut_laws.specs.Covers.{IsAcknowledged}

-- An entry is an fsync of this node, at its stamp.
pub record IsFsyncOf (entry : Entry) (flush : Flush) : Type 0 where
  pub node : NodeId
  pub asked : entry.call ≡ call.Fsync node
  pub own : flush ≡ record { node = node.0; stamp = entry.stamp.0 }

-- The answers of an fsync whose commit may be on the disk: it is after Ok, and it may be after DiskFailed or Stopped.
abbrev pub MayBeWritten : Reply → Type 0
MayBeWritten reply.Ok = Unit {0}
MayBeWritten reply.DiskFailed = Unit {0}
MayBeWritten (reply.Stopped faults) = Unit {0}
MayBeWritten _ = ⊥

-- An entry of a history is this fsync, and was answered Ok, DiskFailed or Stopped.
pub record IsListedFsync (history : List Entry) (flush : Flush) : Type 0 where
  pub entry : Entry
  pub among : IsOneOf history entry
  pub fsync : IsFsyncOf entry flush
  pub answered : MayBeWritten entry.reply

-- An fsync was acknowledged by a moment.
abbrev pub IsAcknowledgedBy : List Entry → ℕ → Flush → Type 0
IsAcknowledgedBy history moment flush = (ack : ℕ) × IsAcknowledged history flush ack × (ack ≤ moment)

-- Where an fsync of a list was acknowledged by a moment, so was each that stands before it, and not later.
abbrev pub AreInOrder : List Entry → ℕ → List Flush → Type 0
AreInOrder history moment [] = Unit {0}
AreInOrder history moment (flush ∷ flushes) =
    ((later : Flush) (ack : ℕ) → IsOneOf flushes later → IsAcknowledged history later ack → ack ≤ moment → IsAcknowledgedBy history ack flush)
    × AreInOrder history moment flushes

-- No two fsyncs of a list have one stamp.
abbrev pub StampsDiffer : List Flush → Type 0
StampsDiffer [] = Unit {0}
StampsDiffer (flush ∷ flushes) = ((other : Flush) → IsOneOf flushes other → other.stamp ≢ flush.stamp) × StampsDiffer flushes

-- A list of fsyncs of a history may have raised the cut of an image that is left at a moment: each fsync acknowledged by the moment is
-- in it, and these stand first, in the order in which they were acknowledged.
pub record AreListed (history : List Entry) (moment : ℕ) (flushes : List Flush) : Type 0 where
  pub each : (flush : Flush) → IsOneOf flushes flush → IsListedFsync history flush
  pub acked : (flush : Flush) (ack : ℕ) → IsAcknowledged history flush ack → ack ≤ moment → IsOneOf flushes flush
  pub order : AreInOrder history moment flushes
  pub once : StampsDiffer flushes
