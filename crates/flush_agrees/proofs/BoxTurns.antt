-- What each turn at the box says of what its fsync made.
use Rattle.journal_set.specs.Telling.{written_of}
use Rattle.std.proofs.Common.{◌∷◌, ◌++◌, ◌≡◌, ◌∙◌, List, [], inl, subst, inr, sym, Option, None, Some, ℕ, Result, Ok, Err}
use Rattle.fmt_journal.specs.declared.tx.Tx.{Tx}
use Rattle.tree_laws.specs.declared.turns.TurnAct.{TurnAct}
use Rattle.tree_laws.specs.declared.turns.TurnAct.TheVariants as act
use Rattle.disk_change.specs.Written.{IsTransactionOf}
use Rattle.cut_laws.specs.Rules.{IsOneOf}
use Rattle.cut_laws.specs.Closure.{Flush}
use Rattle.turn_laws.specs.Ways.{Way}
use Rattle.slot_laws.specs.Telling.{BoxTurn, turn_works, turn_refuses, turn_fails, turn_fails_begun, turn_returns, turn_opens, turn_lands, turn_begins}
use Rattle.journal_set.specs.Telling.{AreTurns, AreTurnsTo, IsOneTurn, TellsNothing, TellsOf, TellsRefusal, TellsWork, TellsFailing, TellsFailingBegun, TellsReturn, TellsGoing, TellsLanding, TellsEnded, end_labels, TellsBegin, TellsUnbegun, BeginsAndEnds, commit_labels}
use Rattle.journal_set.specs.declared.fault.CommitFault.{CommitFault}
use Rattle.journal_set.specs.declared.fault.Ack.{Ack}
use Rattle.journal_set.specs.declared.fault.CommitFault.TheVariants as fault
use Rattle.flush_agrees.specs.Made.{FlushMade, TurnIsOf, TellsNoNumber, TurnMade, change_of}

-- each of some turns is so
pub each_turn : (Is : BoxTurn → Type 0) (turns : List BoxTurn) → AreTurns Is turns → (one : BoxTurn) → IsOneOf turns one → Is one
each_turn Is [] are one among = absurd among
each_turn Is (first ∷ turns) are one (inl same) = subst Is same are.0
each_turn Is (first ∷ turns) are one (inr among) = each_turn Is turns are.1 one among

pub both_are : (Is : BoxTurn → Type 0) (turns more : List BoxTurn) → AreTurns Is turns → AreTurns Is more → AreTurns Is (turns ++ more)
both_are Is [] more are rest = rest
both_are Is (one ∷ turns) more are rest = (are.0, both_are Is turns more are.1 rest)

pub turns_as : (Is As : BoxTurn → Type 0) → ((one : BoxTurn) → Is one → As one) → (turns : List BoxTurn) → AreTurns Is turns → AreTurns As turns
turns_as Is As gives [] are = tt
turns_as Is As gives (one ∷ turns) are = (gives one are.0, turns_as Is As gives turns are.1)

pub turns_to : (Way Ends As : BoxTurn → Type 0) → ((one : BoxTurn) → Way one → As one) → ((one : BoxTurn) → Ends one → As one) → (turns : List BoxTurn)
    → AreTurnsTo Way Ends turns → AreTurns As turns
turns_to Way Ends As way last turns are =
    subst (AreTurns As) (sym are.turns_are)
    (both_are As are.way (are.last ∷ []) (turns_as Way As way are.way are.ways) (last are.last are.is, tt))

pub one_turn : (Is As : BoxTurn → Type 0) → ((one : BoxTurn) → Is one → As one) → (turns : List BoxTurn) → IsOneTurn Is turns → AreTurns As turns
one_turn Is As gives [] is = absurd is
one_turn Is As gives (one ∷ []) is = (gives one is, tt)
one_turn Is As gives (one ∷ other ∷ turns) is = absurd is

-- a turn that tells nothing is of whatever was made
pub nothing_is : (made : Option FlushMade) (one : BoxTurn) → TellsNothing one → TurnIsOf made one
nothing_is None (turn_works []) is = tt
nothing_is (Some m) (turn_works []) is = tt
nothing_is made (turn_works (fact ∷ facts)) is = absurd is
nothing_is made _ is = absurd is

-- one that refuses tells no number
of_none : (core : ℕ) (flush : Flush) (did : TurnAct) (one : BoxTurn) → TellsOf core 0 flush did one → TellsNoNumber one
of_none core flush did (turn_refuses turn) is = is.commit_is
of_none core flush did _ is = absurd is

pub refusal_none : (core : ℕ) (flush : Flush) (why : CommitFault) (one : BoxTurn) → TellsRefusal core flush why one → TellsNoNumber one
refusal_none core flush (fault.DiskFailed faults) one is = absurd is
refusal_none core flush (fault.NoSpace kind need free) one is = of_none core flush (act.Short kind need free) one is
refusal_none core flush (fault.Stopped faults) one is = of_none core flush act.Halted one is
refusal_none core flush (fault.Moved node last) one is = nothing_is None one is
refusal_none core flush fault.NoMemory one is = nothing_is None one is

-- The turns of a commit of what was made.
module _ (m : FlushMade) (core number : ℕ) (flush : Flush) (number_is : number ≡ m.number) where
  work_made : (one : BoxTurn) → TellsWork one → TurnMade m one
  work_made (turn_works facts) is = tt
  work_made _ is = absurd is

  of_made : (did : TurnAct) (one : BoxTurn) → TellsOf core number flush did one → TurnMade m one
  of_made did (turn_refuses turn) is = is.commit_is ∙ number_is
  of_made did _ is = absurd is

  failing_made : (faults : ℕ) (one : BoxTurn) → TellsFailing core number flush faults one → TurnMade m one
  failing_made faults (turn_fails facts cut fail) is = tt
  failing_made faults _ is = absurd is

  failing_begun_made : (faults : ℕ) (one : BoxTurn) → TellsFailingBegun core number flush faults one → TurnMade m one
  failing_begun_made faults (turn_fails_begun facts fail) is = tt
  failing_begun_made faults _ is = absurd is

  pub return_made : (one : BoxTurn) → TellsReturn core number flush one → TurnMade m one
  return_made (turn_returns own turn) is = tt
  return_made _ is = absurd is

  going_made : (one : BoxTurn) → TellsGoing core number flush one → TurnMade m one
  going_made (turn_works facts) is = tt
  going_made (turn_opens slot done cut opened) is = tt
  going_made _ is = absurd is

  landing_made : (moment : ℕ) (one : BoxTurn) → TellsLanding core number flush moment one → TurnMade m one
  landing_made moment (turn_lands turn) is = tt
  landing_made moment _ is = absurd is

  ended_made : (why : CommitFault) (one : BoxTurn) → TellsEnded core number flush why one → TurnMade m one
  ended_made (fault.DiskFailed faults) one is = elim is [ inl shut ↦ failing_made faults one shut | inr begun ↦ failing_begun_made faults one begun ]
  ended_made (fault.NoSpace kind need free) one is = absurd is
  ended_made (fault.Stopped faults) one is = of_made act.Halted one is
  ended_made (fault.Moved node last) one is = absurd is
  ended_made fault.NoMemory one is = absurd is

  end_made : (result : Result Ack CommitFault) (one : BoxTurn) → end_labels core number flush result one → TurnMade m one
  end_made (Ok ack) one is = landing_made ack.moment one is
  end_made (Err why) one is = ended_made why one is

  -- its transaction is that of what was planned
  module _ (tx : Tx) (is_tx : IsTransactionOf (change_of m) m.grant tx) where
    begin_made : (one : BoxTurn) → TellsBegin core flush (written_of tx) number one → TurnMade m one
    begin_made (turn_begins filling own node stamp blocks inodes) is = (
      is.0 ∙ number_is,
      record { tx = tx; is = is_tx; entries = is.2; fresh = is.3; inodes = sym is.5; blocks = sym is.4 },
    )
    begin_made _ is = absurd is

    unbegun_made : (why : CommitFault) (one : BoxTurn) → TellsUnbegun core flush (written_of tx) number why one → TurnMade m one
    unbegun_made (fault.DiskFailed faults) one is = failing_made faults one is
    unbegun_made (fault.NoSpace kind need free) one is = absurd is
    unbegun_made (fault.Stopped faults) one is = of_made act.Halted one is
    unbegun_made (fault.Moved node last) one is = absurd is
    unbegun_made fault.NoMemory one is = absurd is

    begun_made : (result : Result Ack CommitFault) (turns : List BoxTurn) → BeginsAndEnds core flush (written_of tx) number result turns
        → AreTurns (TurnMade m) turns
    begun_made result turns told =
        subst (AreTurns (TurnMade m)) (sym told.turns_are)
        (both_are (TurnMade m) told.first told.second
        (turns_to TellsWork (TellsBegin core flush (written_of tx) number) (TurnMade m) work_made begin_made told.first told.begins)
        (turns_to (TellsGoing core number flush) (end_labels core number flush result) (TurnMade m) going_made (end_made result) told.second told.ends))

    unbegun_turns : (why : CommitFault) (turns : List BoxTurn) → AreTurnsTo TellsWork (TellsUnbegun core flush (written_of tx) number why) turns
        → AreTurns (TurnMade m) turns
    unbegun_turns why turns told =
        turns_to TellsWork (TellsUnbegun core flush (written_of tx) number why) (TurnMade m) work_made (unbegun_made why) turns told

    -- all turns of the commit
    pub commit_made_so : (given : Result Ack CommitFault) (turns : List BoxTurn) → commit_labels core flush (written_of tx) number given turns
        → AreTurns (TurnMade m) turns
    commit_made_so (Ok ack) turns told = begun_made (Ok ack) turns told
    commit_made_so (Err (fault.DiskFailed faults)) turns told = elim told [
      | inl unbegun ↦ unbegun_turns (fault.DiskFailed faults) turns unbegun
      | inr begun ↦ begun_made (Err (fault.DiskFailed faults)) turns begun
    ]
    commit_made_so (Err (fault.NoSpace kind need free)) turns told = absurd told
    commit_made_so (Err (fault.Stopped faults)) turns told = elim told [
      | inl unbegun ↦ unbegun_turns (fault.Stopped faults) turns unbegun
      | inr begun ↦ begun_made (Err (fault.Stopped faults)) turns begun
    ]
    commit_made_so (Err (fault.Moved node last)) turns told = absurd told
    commit_made_so (Err fault.NoMemory) turns told = one_turn (TellsReturn core number flush) (TurnMade m) return_made turns told
