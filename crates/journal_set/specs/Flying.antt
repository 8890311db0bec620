-- What comes of a turn of a commit that is under way in a slot.
use Rattle.std.specs.Prelude.{◌≡◌, ◌⊎◌, ℕ, Bool, true, false, List, Some, None, Result, Ok, Err}
use mathlib.Core.List.{IsPrefix}
use Rattle.sfs_base.specs.Ends.{HasRisen}
use Rattle.tree_laws.specs.declared.turns.Turn.{Turn}
use Rattle.cut_laws.specs.Closure.{Flush}
use Rattle.stamp_table.specs.declared.event.Event.{Event}
use Rattle.slot_laws.specs.declared.label.Label.{Label}
use Rattle.slot_laws.specs.Labels.{OwnTold, SlotFlight, fsync_told}
use Rattle.disk_box.specs.Box.{past_of}
use Rattle.disk_box.specs.Pens.{PenHand}
use Rattle.disk_box.specs.Steps.{OpensFlight}
use Rattle.disk_box.specs.Turns.{Fails, FailsBegun, Halts, Lands}
use Rattle.journal_set.specs.declared.fault.Ack.{Ack}
use Rattle.journal_set.specs.declared.fault.CommitFault.{CommitFault}
use Rattle.journal_set.specs.declared.fault.CommitFault.TheVariants as fault
use Rattle.journal_set.specs.declared.flying.Flight.{Flight}
use Rattle.journal_set.specs.declared.flying.Progress.{Progress}
use Rattle.journal_set.specs.declared.flying.Progress.TheVariants as progress

-- a core's flight, by whether its gate was written
abbrev pub flight_of : Flight → Bool → SlotFlight
flight_of flight opened =
    record { slot = flight.slot; commit = flight.commit; flush = fsync_told flight.fsync.node flight.fsync.stamp; opened = opened }

-- its fsync
abbrev pub flush_of : Flight → Flush
flush_of flight = fsync_told flight.fsync.node flight.fsync.stamp

-- A core's commit is under way: it is the core's flight, no other number is reserved, and no failure has stopped the core.
pub record IsUnderWay (flight : Flight) (opened : Bool) (own : OwnTold) : Type 0 where
  pub flies : own.flight ≡ Some (flight_of flight opened)
  pub none_reserved : own.reserved ≡ None
  pub goes_on : own.over ≡ false

-- it has told nothing of itself since, or that its gate was opened
abbrev pub GoesOn : ℕ → OwnTold → OwnTold → Type 0
GoesOn core before after = (after ≡ before) ⊎ OpensFlight core before after

-- Its turn, of which the core has learned, made it durable.
pub record LandsWith (ack : Ack) (core : ℕ) (before after : OwnTold) : Type 0 where
  pub turn : Turn
  pub lands : Lands turn core before after
  pub moment : turn.now ≡ ack.moment
  pub commit : turn.commit ≡ ack.commit

-- The disk failed it before its gate was opened.
pub record FailsShut (flight : Flight) (core faults : ℕ) (before after : OwnTold) : Type 0 where
  pub shut : before.flight ≡ Some (flight_of flight false)
  pub fails : Fails flight.commit (flush_of flight) core faults before after

-- The disk failed it behind that.
pub record FailsOpened (flight : Flight) (core faults : ℕ) (before after : OwnTold) : Type 0 where
  pub middle : OwnTold
  pub goes : GoesOn core before middle
  pub opened : middle.flight ≡ Some (flight_of flight true)
  pub fails : FailsBegun flight.commit (flush_of flight) core faults middle after

-- a turn that did not make it durable
abbrev pub NotLanded : Progress → Type 0
NotLanded progress.Goes = Unit {0}
NotLanded progress.Filled = Unit {0}
NotLanded (progress.Durable ack) = ⊥

-- how a turn of it ends it without success
abbrev pub TurnFails : Flight → ℕ → OwnTold → OwnTold → CommitFault → Type 0
TurnFails flight core before after (fault.DiskFailed faults) = FailsShut flight core faults before after ⊎ FailsOpened flight core faults before after
TurnFails flight core before after (fault.NoSpace kind need free) = ⊥
TurnFails flight core before after (fault.Stopped faults) = Halts flight.commit (flush_of flight) core before after
TurnFails flight core before after (fault.Moved node last) = ⊥
TurnFails flight core before after fault.NoMemory = ⊥

-- what comes of a turn of it
abbrev pub TurnComes : Flight → ℕ → OwnTold → OwnTold → Result Progress CommitFault → Type 0
TurnComes flight core before after (Ok progress.Goes) = GoesOn core before after
TurnComes flight core before after (Ok progress.Filled) = GoesOn core before after
TurnComes flight core before after (Ok (progress.Durable ack)) = LandsWith ack core before after
TurnComes flight core before after (Err refused) = TurnFails flight core before after refused

-- how its last turn ends it
abbrev pub LastTurn : Flight → ℕ → OwnTold → OwnTold → Result Ack CommitFault → Type 0
LastTurn flight core before after (Ok ack) = LandsWith ack core before after
LastTurn flight core before after (Err refused) = TurnFails flight core before after refused

-- A commit under way has ended: its core told nothing of it, or that its gate was opened, and then its last turn came.
pub record EndsFlight (flight : Flight) (core : ℕ) (before after : OwnTold) (result : Result Ack CommitFault) : Type 0 where
  pub middle : OwnTold
  pub goes : GoesOn core before middle
  pub ends : LastTurn flight core middle after result

-- An earlier commit has failed, with this count of faults, in what a pen has seen.
pub record SeesFailure {D : Type 0} (pen : PenHand D) (faults : ℕ) : Type 0 where
  pub front : List (Event Label)
  pub seen : IsPrefix front pen.view.seen
  pub failed : (past_of pen.table.given front).failed ≡ Some faults

-- why a commit that was reserved did not become durable: the disk's faults had risen to so many; an earlier commit had failed with so many; or memory was
-- wanting
abbrev pub IsCausedBy : {D : Type 0} → PenHand D → CommitFault → Type 0
IsCausedBy pen (fault.DiskFailed faults) = HasRisen pen.table.given.faults faults
IsCausedBy pen (fault.NoSpace kind need free) = ⊥
IsCausedBy pen (fault.Stopped faults) = SeesFailure pen faults
IsCausedBy pen (fault.Moved node last) = ⊥
IsCausedBy pen fault.NoMemory = Unit {0}
