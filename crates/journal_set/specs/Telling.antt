-- Which labels a pen tells in a call, turn by turn at the box, by cases of the answer.
use Rattle.std.specs.Prelude.{◌≡◌, ◌⊎◌, ◌∷◌, ◌++◌, ℕ, List, [], Some, Result, Ok, Err}
use Rattle.fmt_journal.specs.declared.tx.Tx.{Tx}
use Rattle.journal_one.specs.Packed.{Contents, contents_of}
use Rattle.space_map.specs.Space.{GrantedNumbers}
use Rattle.tree_laws.specs.declared.turns.Turn.{Turn}
use Rattle.tree_laws.specs.declared.turns.TurnAct.{TurnAct}
use Rattle.tree_laws.specs.declared.turns.TurnAct.TheVariants as act
use Rattle.cut_laws.specs.Closure.{Flush}
use Rattle.slot_laws.specs.declared.label.Label.TheVariants as label
use Rattle.slot_laws.specs.Labels.{OwnTold, fsync_told}
use Rattle.slot_laws.specs.Rules.{IsTurnBy}
use Rattle.slot_laws.specs.Telling.{AreOfWork, BoxTurn, events_in, labels_in, turn_begins, turn_empties, turn_fails, turn_fails_begun, turn_lands, turn_opens, turn_refuses, turn_reserves, turn_returns, turn_works, AreOfFlight}
use Rattle.disk_box.specs.Pens.{PenHand, Tells}
use Rattle.journal_set.specs.declared.beginning.Writing.{Writing}
use Rattle.journal_set.specs.declared.fault.Ack.{Ack}
use Rattle.journal_set.specs.declared.fault.CommitFault.{CommitFault}
use Rattle.journal_set.specs.declared.fault.CommitFault.TheVariants as fault
use Rattle.journal_set.specs.declared.flying.Flight.{Flight}
use Rattle.journal_set.specs.declared.flying.Progress.{Progress}
use Rattle.journal_set.specs.declared.flying.Progress.TheVariants as progress
use Rattle.journal_set.specs.declared.waiting.Beginning.{Beginning}
use Rattle.journal_set.specs.declared.waiting.Beginning.TheVariants as beginning
use Rattle.journal_set.specs.Reserving.{ReserveRequest}

-- A pen with the box has told what is told in one turn there.
pub record TellsAtBox {D : Type 0} (Is : BoxTurn → Type 0) (before after : PenHand D) : Type 0 where
  pub one : BoxTurn
  pub is : Is one
  pub mine_is : Tells (labels_in one) before after

-- A pen has told, in a call, what is told in some turns at the box.
pub record TellsCall {D : Type 0} (Are : List BoxTurn → Type 0) (before after : PenHand D) : Type 0 where
  pub turns : List BoxTurn
  pub are : Are turns
  pub mine_is : after.view.mine ≡ before.view.mine ++ events_in before.view.core turns

-- A pen with the box has told the end of a commit that wrote nothing, of which its core had reserved the number.
pub record TellsEnd {D : Type 0} (flush : Flush) (ack : Ack) (before after : PenHand D) : Type 0 where
  pub cut : Turn
  pub opened : Turn
  pub durable : Turn
  pub cut_by : IsTurnBy cut act.CutAt before.view.core ack.commit flush
  pub opened_by : IsTurnBy opened act.Opened before.view.core ack.commit flush
  pub durable_by : IsTurnBy durable act.Durable before.view.core ack.commit flush
  pub moment : durable.now ≡ ack.moment
  pub mine_is : Tells (label.Empty ack.commit cut opened durable ∷ []) before after

-- these are one turn alone
abbrev pub IsOneTurn : (BoxTurn → Type 0) → List BoxTurn → Type 0
IsOneTurn Is [] = ⊥
IsOneTurn Is (one ∷ []) = Is one
IsOneTurn Is (one ∷ other ∷ turns) = ⊥

-- each of these is so
abbrev pub AreTurns : (BoxTurn → Type 0) → List BoxTurn → Type 0
AreTurns Is [] = Unit {0}
AreTurns Is (one ∷ turns) = Is one × AreTurns Is turns

-- Some turns are so, and then a last one is so.
pub record AreTurnsTo (Way Last : BoxTurn → Type 0) (turns : List BoxTurn) : Type 0 where
  pub way : List BoxTurn
  pub last : BoxTurn
  pub ways : AreTurns Way way
  pub is : Last last
  pub turns_are : turns ≡ way ++ last ∷ []

-- nothing is told
abbrev pub TellsNothing : BoxTurn → Type 0
TellsNothing (turn_works []) = Unit {0}
TellsNothing _ = ⊥

-- work at slots is told, and nothing of a commit of the core's own
abbrev pub TellsWork : BoxTurn → Type 0
TellsWork (turn_works facts) = AreOfWork facts
TellsWork _ = ⊥

module _ (core number : ℕ) (flush : Flush) where
  -- a turn is told that did this, of a commit with this number and for this fsync
  abbrev pub TellsOf : TurnAct → BoxTurn → Type 0
  TellsOf did (turn_refuses turn) = IsTurnBy turn did core number flush
  TellsOf did _ = ⊥

  -- a device call has failed, with this count of faults, of the commit, which had not begun
  abbrev pub TellsFailing : ℕ → BoxTurn → Type 0
  TellsFailing faults (turn_fails facts cut fail) =
      AreOfWork facts × IsTurnBy cut act.CutAt core number flush × IsTurnBy fail act.Fail core number flush × (fail.faults ≡ faults)
  TellsFailing faults _ = ⊥

  -- or which had
  abbrev pub TellsFailingBegun : ℕ → BoxTurn → Type 0
  TellsFailingBegun faults (turn_fails_begun facts fail) =
      AreOfFlight core number flush facts × IsTurnBy fail act.Fail core number flush × (fail.faults ≡ faults)
  TellsFailingBegun faults _ = ⊥

  -- the number is given back
  abbrev pub TellsReturn : BoxTurn → Type 0
  TellsReturn (turn_returns own turn) = (own ≡ number) × IsTurnBy turn act.GivenBack core number flush
  TellsReturn _ = ⊥

  -- the commit in a slot goes on: work at slots is told, or that its gate was written
  abbrev pub TellsGoing : BoxTurn → Type 0
  TellsGoing (turn_works facts) = AreOfWork facts
  TellsGoing (turn_opens slot done cut opened) = IsTurnBy cut act.CutAt core number flush × IsTurnBy opened act.Opened core number flush
  TellsGoing _ = ⊥

  -- nothing more is told of it than that a device call has failed
  abbrev pub TellsFault : ℕ → BoxTurn → Type 0
  TellsFault faults one = TellsFailing faults one ⊎ TellsFailingBegun faults one

  -- it has become durable, at this moment
  abbrev pub TellsLanding : ℕ → BoxTurn → Type 0
  TellsLanding moment (turn_lands turn) = IsTurnBy turn act.Durable core number flush × (turn.now ≡ moment)
  TellsLanding moment _ = ⊥

  -- what ends it in a slot without success
  abbrev pub TellsEnded : CommitFault → BoxTurn → Type 0
  TellsEnded (fault.DiskFailed faults) = TellsFault faults
  TellsEnded (fault.NoSpace kind need free) = λ one. ⊥
  TellsEnded (fault.Stopped faults) = TellsOf act.Halted
  TellsEnded (fault.Moved node last) = λ one. ⊥
  TellsEnded fault.NoMemory = λ one. ⊥

  -- what a turn of it in a slot tells
  abbrev pub flight_labels : Result Progress CommitFault → BoxTurn → Type 0
  flight_labels (Ok progress.Goes) = TellsGoing
  flight_labels (Ok progress.Filled) = TellsGoing
  flight_labels (Ok (progress.Durable ack)) = TellsLanding ack.moment
  flight_labels (Err refused) = TellsEnded refused

  -- and its last one
  abbrev pub end_labels : Result Ack CommitFault → BoxTurn → Type 0
  end_labels (Ok ack) = TellsLanding ack.moment
  end_labels (Err refused) = TellsEnded refused

-- What is told of the number that a core has reserved.
pub record OfReserved {X : Type 0} (own : OwnTold) (Is : ℕ → X → Type 0) (told : X) : Type 0 where
  pub number : ℕ
  pub had : own.reserved ≡ Some number
  pub is : Is number told

-- What refuses a number: too little is free, or an earlier commit has failed; else nothing is told.
module _ (core : ℕ) (flush : Flush) where
  abbrev pub TellsRefusal : CommitFault → BoxTurn → Type 0
  TellsRefusal (fault.DiskFailed faults) = λ one. ⊥
  TellsRefusal (fault.NoSpace kind need free) = TellsOf core 0 flush (act.Short kind need free)
  TellsRefusal (fault.Stopped faults) = TellsOf core 0 flush act.Halted
  TellsRefusal (fault.Moved node last) = TellsNothing
  TellsRefusal fault.NoMemory = TellsNothing

module _ (core : ℕ) (asked : ReserveRequest) where
  -- a number is reserved for its nodes as they were seen, with this grant, and the turn Granted is told
  abbrev pub TellsGrant : GrantedNumbers → BoxTurn → Type 0
  TellsGrant grant (turn_reserves number seen given turn) = (given ≡ grant) × (seen.items ≡ asked.seen) × IsTurnBy turn act.Granted core number asked.flush
  TellsGrant grant _ = ⊥

  -- what reserving tells
  abbrev pub reserve_labels : Result GrantedNumbers CommitFault → BoxTurn → Type 0
  reserve_labels (Ok grant) = TellsGrant grant
  reserve_labels (Err refused) = TellsRefusal core asked.flush refused

  -- a commit without records has reserved its number with nothing, and its three turns are told
  abbrev pub TellsEmpty : Ack → BoxTurn → Type 0
  TellsEmpty ack (turn_empties number seen cut opened durable) =
      (number ≡ ack.commit) × (seen.items ≡ asked.seen) × IsTurnBy cut act.CutAt core number asked.flush × IsTurnBy opened act.Opened core number asked.flush
      × IsTurnBy durable act.Durable core number asked.flush × (durable.now ≡ ack.moment)
  TellsEmpty ack _ = ⊥

  -- what an empty commit tells
  abbrev pub empty_labels : Result Ack CommitFault → BoxTurn → Type 0
  empty_labels (Ok ack) = TellsEmpty ack
  empty_labels (Err refused) = TellsRefusal core asked.flush refused

-- What a commit writes: what fills its slot, and the blocks and inodes that it gives up.
pub record Written : Type 0 where
  pub contents : Contents
  pub blocks : List ℕ
  pub inodes : List ℕ

-- that of a transaction
abbrev pub written_of : Tx → Written
written_of tx = record { contents = contents_of tx; blocks = tx.freed_blocks.items; inodes = tx.freed_inodes.items }

-- and of what was packed of one
abbrev pub written_in : Writing → Written
written_in writing = record { contents = writing.packed; blocks = writing.freed_blocks.items; inodes = writing.freed_inodes.items }

module _ (core : ℕ) (flush : Flush) (written : Written) (number : ℕ) where
  -- the commit begins in a slot with its number, for its fsync, with what it writes
  abbrev pub TellsBegin : BoxTurn → Type 0
  TellsBegin (turn_begins filling own node stamp blocks inodes) =
      (own ≡ number) × (fsync_told node stamp ≡ flush) × (filling.job.entries ≡ written.contents.entries) × (filling.job.fresh ≡ written.contents.fresh)
      × (blocks.items ≡ written.blocks) × (inodes.items ≡ written.inodes)
  TellsBegin _ = ⊥

  -- what ends it before that
  abbrev pub TellsUnbegun : CommitFault → BoxTurn → Type 0
  TellsUnbegun (fault.DiskFailed faults) = TellsFailing core number flush faults
  TellsUnbegun (fault.NoSpace kind need free) = λ one. ⊥
  TellsUnbegun (fault.Stopped faults) = TellsOf core number flush act.Halted
  TellsUnbegun (fault.Moved node last) = λ one. ⊥
  TellsUnbegun fault.NoMemory = λ one. ⊥

  -- what a turn towards its beginning tells
  abbrev pub begin_labels : Result Beginning CommitFault → BoxTurn → Type 0
  begin_labels (Ok (beginning.Waits still)) = TellsWork
  begin_labels (Ok (beginning.Begun flight)) = TellsBegin
  begin_labels (Err refused) = TellsUnbegun refused

  -- and the last of them
  abbrev pub begun_labels : Result Flight CommitFault → BoxTurn → Type 0
  begun_labels (Ok flight) = TellsBegin
  begun_labels (Err refused) = TellsUnbegun refused

  -- It begins, once its core has waited for a slot, and then goes on in its slot to its end.
  pub record BeginsAndEnds (result : Result Ack CommitFault) (turns : List BoxTurn) : Type 0 where
    pub first : List BoxTurn
    pub second : List BoxTurn
    pub begins : AreTurnsTo TellsWork TellsBegin first
    pub ends : AreTurnsTo (TellsGoing core number flush) (end_labels core number flush result) second
    pub turns_are : turns ≡ first ++ second

  -- what it tells, by cases of the answer: it is durable; it failed or was halted, before it began or behind that; or its number is given back
  abbrev pub commit_labels : Result Ack CommitFault → List BoxTurn → Type 0
  commit_labels (Ok ack) turns = BeginsAndEnds (Ok ack) turns
  commit_labels (Err (fault.DiskFailed faults)) turns =
      AreTurnsTo TellsWork (TellsUnbegun (fault.DiskFailed faults)) turns ⊎ BeginsAndEnds (Err (fault.DiskFailed faults)) turns
  commit_labels (Err (fault.NoSpace kind need free)) turns = ⊥
  commit_labels (Err (fault.Stopped faults)) turns =
      AreTurnsTo TellsWork (TellsUnbegun (fault.Stopped faults)) turns ⊎ BeginsAndEnds (Err (fault.Stopped faults)) turns
  commit_labels (Err (fault.Moved node last)) turns = ⊥
  commit_labels (Err fault.NoMemory) turns = IsOneTurn (TellsReturn core number flush) turns
