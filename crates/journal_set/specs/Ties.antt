-- What each call of a pen tells, turn by turn, is of commits of its core's, where each number that is told has the stamp of its fsync.
use Rattle.std.specs.Prelude.{◌≡◌, ℕ, List, Some, Result}
use Rattle.space_map.specs.Space.{GrantedNumbers}
use Rattle.cut_laws.specs.Closure.{Flush}
use Rattle.slot_laws.specs.Telling.{BoxTurn, turn_reserves, turn_empties, TellsTurn, HasFlightFor, TellTurns}
use Rattle.slot_laws.specs.Labels.{OwnTold}
use Rattle.journal_set.specs.Reserving.{ReserveRequest}
use Rattle.journal_set.specs.declared.fault.CommitFault.{CommitFault}
use Rattle.journal_set.specs.Telling.{reserve_labels, empty_labels, TellsReturn, Written, begin_labels, flight_labels, commit_labels}
use Rattle.journal_set.specs.declared.fault.Ack.{Ack}
use Rattle.journal_set.specs.declared.waiting.Beginning.{Beginning}
use Rattle.journal_set.specs.declared.flying.Progress.{Progress}

-- the number that is told in a turn has the stamp of the fsync
abbrev pub NamesTurn : (ℕ → ℕ) → Flush → BoxTurn → Type 0
NamesTurn stamps flush (turn_reserves number seen grant turn) = stamps number ≡ flush.stamp
NamesTurn stamps flush (turn_empties number seen cut opened durable) = stamps number ≡ flush.stamp
NamesTurn stamps flush _ = Unit {0}

-- What reserving tells.
abbrev pub ReservingsTell : Type 0
ReservingsTell = (stamps : ℕ → ℕ) (core : ℕ) (own : OwnTold) (asked : ReserveRequest) (result : Result GrantedNumbers CommitFault) (one : BoxTurn)
    → NamesTurn stamps asked.flush one → reserve_labels core asked result one → TellsTurn stamps core own one

-- What a commit without records tells.
abbrev pub EmptyCommitsTell : Type 0
EmptyCommitsTell = (stamps : ℕ → ℕ) (core : ℕ) (own : OwnTold) (asked : ReserveRequest) (result : Result Ack CommitFault) (one : BoxTurn)
    → NamesTurn stamps asked.flush one → empty_labels core asked result one → TellsTurn stamps core own one

-- What a core told of a commit whose number it has reserved, for an fsync with its stamp.
pub record IsReservedFor (stamps : ℕ → ℕ) (flush : Flush) (number : ℕ) (own : OwnTold) : Type 0 where
  pub had : own.reserved ≡ Some number
  pub named : stamps number ≡ flush.stamp

-- What giving back tells.
abbrev pub ReturnsTell : Type 0
ReturnsTell = (stamps : ℕ → ℕ) (core number : ℕ) (flush : Flush) (own : OwnTold) (one : BoxTurn) → IsReservedFor stamps flush number own
    → TellsReturn core number flush one → TellsTurn stamps core own one

-- What a turn towards a beginning tells.
abbrev pub BeginningsTell : Type 0
BeginningsTell = (stamps : ℕ → ℕ) (core number : ℕ) (flush : Flush) (written : Written) (own : OwnTold) (result : Result Beginning CommitFault) (one : BoxTurn)
    → IsReservedFor stamps flush number own → begin_labels core flush written number result one → TellsTurn stamps core own one

-- What a turn of a commit in a slot tells.
abbrev pub FlightsTell : Type 0
FlightsTell = (stamps : ℕ → ℕ) (core number : ℕ) (flush : Flush) (own : OwnTold) (result : Result Progress CommitFault) (one : BoxTurn)
    → HasFlightFor flush own → stamps number ≡ flush.stamp → flight_labels core number flush result one → TellsTurn stamps core own one

-- What a whole commit tells.
abbrev pub CommitsTell : Type 0
CommitsTell = (stamps : ℕ → ℕ) (core number : ℕ) (flush : Flush) (written : Written) (own : OwnTold) (result : Result Ack CommitFault) (turns : List BoxTurn)
    → IsReservedFor stamps flush number own → commit_labels core flush written number result turns → TellTurns stamps core own turns
