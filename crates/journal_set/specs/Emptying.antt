-- What comes of a commit without records, by cases of the answer.
use Rattle.std.specs.Prelude.{◌≡◌, ℕ, Some, Result, Ok, Err}
use Rattle.space_map.specs.declared.grant.Need.{Need}
use Rattle.tree_laws.specs.declared.turns.Turn.{Turn}
use Rattle.tree_laws.specs.declared.turns.TurnAct.TheVariants as act
use Rattle.cut_laws.specs.Closure.{Flush}
use Rattle.slot_laws.specs.Labels.{OwnTold, own_label}
use Rattle.slot_laws.specs.Nodes.{no_numbers}
use Rattle.slot_laws.specs.Rules.{IsTurnBy}
use Rattle.slot_laws.specs.declared.label.Label.TheVariants as label
use Rattle.disk_box.specs.Pens.{PenHand, own_at}
use Rattle.journal_set.specs.declared.fault.Ack.{Ack}
use Rattle.journal_set.specs.declared.fault.CommitFault.{CommitFault}
use Rattle.journal_set.specs.declared.fault.CommitFault.TheVariants as fault
use Rattle.journal_set.specs.Numbering.{IsNewerThan, WasReserved}
use Rattle.journal_set.specs.Reserving.{ReserveRequest, FindsMoved, FindsStopped}

-- the need of nothing
abbrev pub NOTHING : Need
NOTHING = record { inodes = 0; blocks = 0 }

-- A commit that has reserved its number has begun, was opened and is durable, at one moment.
pub record EndsTogether (core : ℕ) (flush : Flush) (ack : Ack) (before after : OwnTold) : Type 0 where
  pub cut : Turn
  pub opened : Turn
  pub durable : Turn
  pub cut_by : IsTurnBy cut act.CutAt core ack.commit flush
  pub opened_by : IsTurnBy opened act.Opened core ack.commit flush
  pub durable_by : IsTurnBy durable act.Durable core ack.commit flush
  pub moments : (cut.now ≡ ack.moment) × (opened.now ≡ ack.moment) × (durable.now ≡ ack.moment)
  pub after_is : after ≡ own_label (label.Empty ack.commit cut opened durable) before

module _ {D : Type 0} (asked : ReserveRequest) (before after : PenHand D) where
  -- A number was reserved with nothing, above each that the core had reserved before, and in the same turn at the box the commit has ended.
  pub record EndsAtOnce (ack : Ack) : Type 0 where
    pub ends : EndsTogether before.view.core asked.flush ack (record (own_at before) { reserved = Some ack.commit }) (own_at after)
    pub newer : IsNewerThan before.view.mine ack.commit
    pub reserved : WasReserved after.table.given after.view.seen before.view.core ack.commit asked.seen NOTHING no_numbers

  -- what comes of it
  abbrev pub Empties : Result Ack CommitFault → Type 0
  Empties (Ok ack) = EndsAtOnce ack
  Empties (Err (fault.DiskFailed faults)) = ⊥
  Empties (Err (fault.NoSpace kind need free)) = ⊥
  Empties (Err (fault.Stopped faults)) = FindsStopped asked before after faults
  Empties (Err (fault.Moved node last)) = FindsMoved asked before after node last
  Empties (Err fault.NoMemory) = own_at after ≡ own_at before
