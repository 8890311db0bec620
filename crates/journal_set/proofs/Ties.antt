-- That what each call of a pen tells is of commits of its core's.
use Rattle.std.proofs.Common.{◌≡◌, ◌⊎◌, ◌∷◌, ◌∙◌, ℕ, [], refl, inl, inr, Some, Result, Ok, Err}
use Rattle.sfs_base.specs.declared.numbers.SpaceKind.{SpaceKind}
use Rattle.space_map.specs.Space.{GrantedNumbers}
use Rattle.tree_laws.specs.declared.turns.TurnAct.TheVariants as act
use Rattle.cut_laws.specs.Closure.{Flush}
use Rattle.slot_laws.specs.Labels.{OwnTold, own_from}
use Rattle.slot_laws.specs.Telling.{BoxTurn, TellsTurn, turn_works, turn_refuses, turn_reserves, turn_returns, turn_empties, turn_begins, turn_opens, turn_lands, turn_fails, turn_fails_begun, is_halted, is_short, HasFlightFor, at_box, labels_in}
use Rattle.slot_laws.proofs.Telling.{box_own, works_own}
use Rattle.journal_set.specs.Telling.{TellsNothing, TellsWork, TellsOf, TellsRefusal, TellsGrant, TellsEmpty, TellsReturn, Written, TellsBegin, TellsFailing, TellsFailingBegun, TellsGoing, TellsLanding, TellsEnded, end_labels, TellsUnbegun}
use Rattle.journal_set.specs.declared.fault.CommitFault.{CommitFault}
use Rattle.journal_set.specs.Reserving.{ReserveRequest}
use Rattle.journal_set.specs.Ties.{NamesTurn}
use Rattle.journal_set.specs.declared.fault.Ack.{Ack}
use Rattle.journal_set.specs.declared.fault.CommitFault.TheVariants as fault

module _ (stamps : ℕ → ℕ) (core : ℕ) (own : OwnTold) where
  -- a turn in which nothing is told
  pub nothing_tells : (number : ℕ) (flush : Flush) (one : BoxTurn) → TellsNothing one → TellsTurn stamps core own one
  nothing_tells number flush (turn_works []) is = record { number = number; flush = flush; is = tt; mine = tt; named = tt }
  nothing_tells number flush (turn_works (fact ∷ facts)) is = absurd is
  nothing_tells number flush (turn_refuses turn) is = absurd is
  nothing_tells number flush (turn_reserves own_number seen grant turn) is = absurd is
  nothing_tells number flush (turn_returns own_number turn) is = absurd is
  nothing_tells number flush (turn_empties own_number seen cut opened durable) is = absurd is
  nothing_tells number flush (turn_begins filling own_number node stamp blocks inodes) is = absurd is
  nothing_tells number flush (turn_opens slot done cut opened) is = absurd is
  nothing_tells number flush (turn_lands turn) is = absurd is
  nothing_tells number flush (turn_fails facts cut fail) is = absurd is
  nothing_tells number flush (turn_fails_begun facts fail) is = absurd is

  -- one of work alone
  pub work_tells : (number : ℕ) (flush : Flush) (one : BoxTurn) → TellsWork one → TellsTurn stamps core own one
  work_tells number flush (turn_works facts) is = record { number = number; flush = flush; is = is; mine = tt; named = tt }
  work_tells number flush (turn_refuses turn) is = absurd is
  work_tells number flush (turn_reserves own_number seen grant turn) is = absurd is
  work_tells number flush (turn_returns own_number turn) is = absurd is
  work_tells number flush (turn_empties own_number seen cut opened durable) is = absurd is
  work_tells number flush (turn_begins filling own_number node stamp blocks inodes) is = absurd is
  work_tells number flush (turn_opens slot done cut opened) is = absurd is
  work_tells number flush (turn_lands turn) is = absurd is
  work_tells number flush (turn_fails facts cut fail) is = absurd is
  work_tells number flush (turn_fails_begun facts fail) is = absurd is

  -- one that is halted
  pub halted_tells : (number : ℕ) (flush : Flush) (one : BoxTurn) → TellsOf core number flush act.Halted one → TellsTurn stamps core own one
  halted_tells number flush (turn_refuses turn) is = record { number = number; flush = flush; is = is_halted is; mine = tt; named = tt }
  halted_tells number flush (turn_works facts) is = absurd is
  halted_tells number flush (turn_reserves own_number seen grant turn) is = absurd is
  halted_tells number flush (turn_returns own_number turn) is = absurd is
  halted_tells number flush (turn_empties own_number seen cut opened durable) is = absurd is
  halted_tells number flush (turn_begins filling own_number node stamp blocks inodes) is = absurd is
  halted_tells number flush (turn_opens slot done cut opened) is = absurd is
  halted_tells number flush (turn_lands turn) is = absurd is
  halted_tells number flush (turn_fails facts cut fail) is = absurd is
  halted_tells number flush (turn_fails_begun facts fail) is = absurd is

  -- one that is short
  pub short_tells : (number : ℕ) (flush : Flush) (kind : SpaceKind) (need free : ℕ) (one : BoxTurn) → TellsOf core number flush (act.Short kind need free) one
      → TellsTurn stamps core own one
  short_tells number flush kind need free (turn_refuses turn) is =
      record { number = number; flush = flush; is = is_short kind need free is; mine = tt; named = tt }
  short_tells number flush kind need free (turn_works facts) is = absurd is
  short_tells number flush kind need free (turn_reserves own_number seen grant turn) is = absurd is
  short_tells number flush kind need free (turn_returns own_number turn) is = absurd is
  short_tells number flush kind need free (turn_empties own_number seen cut opened durable) is = absurd is
  short_tells number flush kind need free (turn_begins filling own_number node stamp blocks inodes) is = absurd is
  short_tells number flush kind need free (turn_opens slot done cut opened) is = absurd is
  short_tells number flush kind need free (turn_lands turn) is = absurd is
  short_tells number flush kind need free (turn_fails facts cut fail) is = absurd is
  short_tells number flush kind need free (turn_fails_begun facts fail) is = absurd is

  pub refusal_tells : (flush : Flush) (refused : CommitFault) (one : BoxTurn) → TellsRefusal core flush refused one → TellsTurn stamps core own one
  refusal_tells flush (fault.DiskFailed faults) one is = absurd is
  refusal_tells flush (fault.NoSpace kind need free) one is = short_tells 0 flush kind need free one is
  refusal_tells flush (fault.Stopped faults) one is = halted_tells 0 flush one is
  refusal_tells flush (fault.Moved node last) one is = nothing_tells 0 flush one is
  refusal_tells flush fault.NoMemory one is = nothing_tells 0 flush one is

  pub grant_tells : (asked : ReserveRequest) (grant : GrantedNumbers) (one : BoxTurn) → NamesTurn stamps asked.flush one → TellsGrant core asked grant one
      → TellsTurn stamps core own one
  grant_tells asked grant (turn_reserves number seen given turn) named is =
      record { number = number; flush = asked.flush; is = (refl, is.2); mine = tt; named = named }
  grant_tells asked grant (turn_works facts) named is = absurd is
  grant_tells asked grant (turn_refuses turn) named is = absurd is
  grant_tells asked grant (turn_returns own_number turn) named is = absurd is
  grant_tells asked grant (turn_empties own_number seen cut opened durable) named is = absurd is
  grant_tells asked grant (turn_begins filling own_number node stamp blocks inodes) named is = absurd is
  grant_tells asked grant (turn_opens slot done cut opened) named is = absurd is
  grant_tells asked grant (turn_lands turn) named is = absurd is
  grant_tells asked grant (turn_fails facts cut fail) named is = absurd is
  grant_tells asked grant (turn_fails_begun facts fail) named is = absurd is

  pub empty_tells : (asked : ReserveRequest) (ack : Ack) (one : BoxTurn) → NamesTurn stamps asked.flush one → TellsEmpty core asked ack one
      → TellsTurn stamps core own one
  empty_tells asked ack (turn_empties number seen cut opened durable) named is =
      record { number = number; flush = asked.flush; is = (refl, is.2, is.3, is.4); mine = tt; named = named }
  empty_tells asked ack (turn_works facts) named is = absurd is
  empty_tells asked ack (turn_refuses turn) named is = absurd is
  empty_tells asked ack (turn_reserves own_number seen grant turn) named is = absurd is
  empty_tells asked ack (turn_returns own_number turn) named is = absurd is
  empty_tells asked ack (turn_begins filling own_number node stamp blocks inodes) named is = absurd is
  empty_tells asked ack (turn_opens slot done cut opened) named is = absurd is
  empty_tells asked ack (turn_lands turn) named is = absurd is
  empty_tells asked ack (turn_fails facts cut fail) named is = absurd is
  empty_tells asked ack (turn_fails_begun facts fail) named is = absurd is

  module _ (number : ℕ) (flush : Flush) (named : stamps number ≡ flush.stamp) where
    pub return_tells : (one : BoxTurn) → TellsReturn core number flush one → TellsTurn stamps core own one
    return_tells (turn_returns own_number turn) is = record { number = number; flush = flush; is = is; mine = tt; named = named }
    return_tells (turn_works facts) is = absurd is
    return_tells (turn_refuses turn) is = absurd is
    return_tells (turn_reserves own_number seen grant turn) is = absurd is
    return_tells (turn_empties own_number seen cut opened durable) is = absurd is
    return_tells (turn_begins filling own_number node stamp blocks inodes) is = absurd is
    return_tells (turn_opens slot done cut opened) is = absurd is
    return_tells (turn_lands turn) is = absurd is
    return_tells (turn_fails facts cut fail) is = absurd is
    return_tells (turn_fails_begun facts fail) is = absurd is

    pub begin_tells : (written : Written) (one : BoxTurn) → TellsBegin core flush written number one → TellsTurn stamps core own one
    begin_tells written (turn_begins filling own_number node stamp blocks inodes) is =
        record { number = number; flush = flush; is = (is.0, is.1); mine = tt; named = named }
    begin_tells written (turn_works facts) is = absurd is
    begin_tells written (turn_refuses turn) is = absurd is
    begin_tells written (turn_reserves own_number seen grant turn) is = absurd is
    begin_tells written (turn_returns own_number turn) is = absurd is
    begin_tells written (turn_empties own_number seen cut opened durable) is = absurd is
    begin_tells written (turn_opens slot done cut opened) is = absurd is
    begin_tells written (turn_lands turn) is = absurd is
    begin_tells written (turn_fails facts cut fail) is = absurd is
    begin_tells written (turn_fails_begun facts fail) is = absurd is

    pub failing_tells : (faults : ℕ) (one : BoxTurn) → HasFlightFor flush own ⊎ (own.reserved ≡ Some number) → TellsFailing core number flush faults one
        → TellsTurn stamps core own one
    failing_tells faults (turn_fails facts cut fail) mine is =
        record { number = number; flush = flush; is = (is.0, is.1, is.2); mine = mine; named = named }
    failing_tells faults (turn_works facts) mine is = absurd is
    failing_tells faults (turn_refuses turn) mine is = absurd is
    failing_tells faults (turn_reserves own_number seen grant turn) mine is = absurd is
    failing_tells faults (turn_returns own_number turn) mine is = absurd is
    failing_tells faults (turn_empties own_number seen cut opened durable) mine is = absurd is
    failing_tells faults (turn_begins filling own_number node stamp blocks inodes) mine is = absurd is
    failing_tells faults (turn_opens slot done cut opened) mine is = absurd is
    failing_tells faults (turn_lands turn) mine is = absurd is
    failing_tells faults (turn_fails_begun facts fail) mine is = absurd is

    pub failing_begun_tells : (faults : ℕ) (one : BoxTurn) → TellsFailingBegun core number flush faults one → TellsTurn stamps core own one
    failing_begun_tells faults (turn_fails_begun facts fail) is = record { number = number; flush = flush; is = (is.0, is.1); mine = tt; named = tt }
    failing_begun_tells faults (turn_works facts) is = absurd is
    failing_begun_tells faults (turn_refuses turn) is = absurd is
    failing_begun_tells faults (turn_reserves own_number seen grant turn) is = absurd is
    failing_begun_tells faults (turn_returns own_number turn) is = absurd is
    failing_begun_tells faults (turn_empties own_number seen cut opened durable) is = absurd is
    failing_begun_tells faults (turn_begins filling own_number node stamp blocks inodes) is = absurd is
    failing_begun_tells faults (turn_opens slot done cut opened) is = absurd is
    failing_begun_tells faults (turn_lands turn) is = absurd is
    failing_begun_tells faults (turn_fails facts cut fail) is = absurd is

    pub going_tells : (one : BoxTurn) → TellsGoing core number flush one → TellsTurn stamps core own one
    going_tells (turn_works facts) is = record { number = number; flush = flush; is = is; mine = tt; named = tt }
    going_tells (turn_opens slot done cut opened) is = record { number = number; flush = flush; is = is; mine = tt; named = tt }
    going_tells (turn_refuses turn) is = absurd is
    going_tells (turn_reserves own_number seen grant turn) is = absurd is
    going_tells (turn_returns own_number turn) is = absurd is
    going_tells (turn_empties own_number seen cut opened durable) is = absurd is
    going_tells (turn_begins filling own_number node stamp blocks inodes) is = absurd is
    going_tells (turn_lands turn) is = absurd is
    going_tells (turn_fails facts cut fail) is = absurd is
    going_tells (turn_fails_begun facts fail) is = absurd is

    pub landing_tells : (moment : ℕ) (one : BoxTurn) → TellsLanding core number flush moment one → TellsTurn stamps core own one
    landing_tells moment (turn_lands turn) is = record { number = number; flush = flush; is = is.0; mine = tt; named = tt }
    landing_tells moment (turn_works facts) is = absurd is
    landing_tells moment (turn_refuses turn) is = absurd is
    landing_tells moment (turn_reserves own_number seen grant turn) is = absurd is
    landing_tells moment (turn_returns own_number turn) is = absurd is
    landing_tells moment (turn_empties own_number seen cut opened durable) is = absurd is
    landing_tells moment (turn_begins filling own_number node stamp blocks inodes) is = absurd is
    landing_tells moment (turn_opens slot done cut opened) is = absurd is
    landing_tells moment (turn_fails facts cut fail) is = absurd is
    landing_tells moment (turn_fails_begun facts fail) is = absurd is

    pub ended_tells : (refused : CommitFault) (one : BoxTurn) → HasFlightFor flush own → TellsEnded core number flush refused one → TellsTurn stamps core own one
    ended_tells (fault.DiskFailed faults) one has is = elim is [
      | inl shut ↦ failing_tells faults one (inl has) shut
      | inr begun ↦ failing_begun_tells faults one begun
    ]
    ended_tells (fault.NoSpace kind need free) one has is = absurd is
    ended_tells (fault.Stopped faults) one has is = halted_tells number flush one is
    ended_tells (fault.Moved node last) one has is = absurd is
    ended_tells fault.NoMemory one has is = absurd is

    pub end_tells : (result : Result Ack CommitFault) (one : BoxTurn) → HasFlightFor flush own → end_labels core number flush result one
        → TellsTurn stamps core own one
    end_tells (Ok ack) one has is = landing_tells ack.moment one is
    end_tells (Err refused) one has is = ended_tells refused one has is

    pub unbegun_tells : (written : Written) (refused : CommitFault) (one : BoxTurn) → own.reserved ≡ Some number
        → TellsUnbegun core flush written number refused one → TellsTurn stamps core own one
    unbegun_tells written (fault.DiskFailed faults) one had is = failing_tells faults one (inr had) is
    unbegun_tells written (fault.NoSpace kind need free) one had is = absurd is
    unbegun_tells written (fault.Stopped faults) one had is = halted_tells number flush one is
    unbegun_tells written (fault.Moved node last) one had is = absurd is
    unbegun_tells written fault.NoMemory one had is = absurd is

-- what a core told, behind work
pub work_leaves : (core : ℕ) (own : OwnTold) (one : BoxTurn) → TellsWork one → own_from (at_box core (labels_in one)) own ≡ own
work_leaves core own (turn_works facts) is = box_own core facts own ∙ works_own core facts own is
work_leaves core own (turn_refuses turn) is = absurd is
work_leaves core own (turn_reserves own_number seen grant turn) is = absurd is
work_leaves core own (turn_returns own_number turn) is = absurd is
work_leaves core own (turn_empties own_number seen cut opened durable) is = absurd is
work_leaves core own (turn_begins filling own_number node stamp blocks inodes) is = absurd is
work_leaves core own (turn_opens slot done cut opened) is = absurd is
work_leaves core own (turn_lands turn) is = absurd is
work_leaves core own (turn_fails facts cut fail) is = absurd is
work_leaves core own (turn_fails_begun facts fail) is = absurd is
