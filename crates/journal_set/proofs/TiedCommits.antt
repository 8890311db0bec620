-- That what whole calls of a pen tell is of commits of its core's.
use Rattle.std.proofs.Common.{◌≡◌, ◌∷◌, ◌++◌, ◌∙◌, ℕ, List, [], refl, sym, ap, subst, inl, inr, Some, Result, Ok, Err, false, option_map, append-nil}
use Rattle.cut_laws.specs.Closure.{Flush}
use Rattle.slot_laws.specs.Labels.{OwnTold, own_from, fsync_told, opened_flight}
use Rattle.slot_laws.specs.Telling.{BoxTurn, HasFlightFor, at_box, labels_in, turn_begins, turn_works, turn_refuses, turn_reserves, turn_returns, turn_empties, turn_opens, turn_lands, turn_fails, turn_fails_begun, TellTurns, events_in}
use Rattle.slot_laws.proofs.Telling.{own_both, events_both, tell_both}
use Rattle.journal_set.specs.Ties.{ReservingsTell, EmptyCommitsTell, ReturnsTell, BeginningsTell, FlightsTell, CommitsTell}
use Rattle.journal_set.specs.Telling.{Written, TellsBegin, TellsGoing, AreTurns, TellsWork, AreTurnsTo, TellsUnbegun, BeginsAndEnds, IsOneTurn, TellsReturn}
use Rattle.journal_set.specs.declared.fault.CommitFault.{CommitFault}
use Rattle.journal_set.specs.declared.fault.Ack.{Ack}
use Rattle.journal_set.specs.declared.waiting.Beginning.TheVariants as beginning
use Rattle.journal_set.specs.declared.flying.Progress.TheVariants as progress
use Rattle.journal_set.specs.declared.fault.CommitFault.TheVariants as fault
use Rattle.journal_set.proofs.Ties.{grant_tells, refusal_tells, empty_tells, return_tells, work_tells, begin_tells, unbegun_tells, going_tells, landing_tells, ended_tells, work_leaves, end_tells}

pub reservings_tell : ReservingsTell
reservings_tell stamps core own asked (Ok grant) one named is = grant_tells stamps core own asked grant one named is
reservings_tell stamps core own asked (Err refused) one named is = refusal_tells stamps core own asked.flush refused one is

pub empty_commits_tell : EmptyCommitsTell
empty_commits_tell stamps core own asked (Ok ack) one named is = empty_tells stamps core own asked ack one named is
empty_commits_tell stamps core own asked (Err refused) one named is = refusal_tells stamps core own asked.flush refused one is

pub returns_tell : ReturnsTell
returns_tell stamps core number flush own one reserved is = return_tells stamps core own number flush reserved.named one is

pub beginnings_tell : BeginningsTell
beginnings_tell stamps core number flush written own (Ok (beginning.Waits still)) one reserved is = work_tells stamps core own number flush one is
beginnings_tell stamps core number flush written own (Ok (beginning.Begun flight)) one reserved is =
    begin_tells stamps core own number flush reserved.named written one is
beginnings_tell stamps core number flush written own (Err refused) one reserved is =
    unbegun_tells stamps core own number flush reserved.named written refused one reserved.had is

pub flights_tell : FlightsTell
flights_tell stamps core number flush own (Ok progress.Goes) one has named is = going_tells stamps core own number flush named one is
flights_tell stamps core number flush own (Ok progress.Filled) one has named is = going_tells stamps core own number flush named one is
flights_tell stamps core number flush own (Ok (progress.Durable ack)) one has named is = landing_tells stamps core own number flush named ack.moment one is
flights_tell stamps core number flush own (Err refused) one has named is = ended_tells stamps core own number flush named refused one has is

-- where a commit has begun its core has it in a slot
begun_leaves : (core number : ℕ) (flush : Flush) (written : Written) (own : OwnTold) (one : BoxTurn) → TellsBegin core flush written number one
    → HasFlightFor flush (own_from (at_box core (labels_in one)) own)
begun_leaves core number flush written own (turn_begins filling own_number node stamp blocks inodes) is = record {
  flight = record { slot = filling.job.place.slot; commit = own_number; flush = fsync_told node stamp; opened = false };
  flies = refl;
  flush_is = is.1;
}
begun_leaves core number flush written own (turn_works facts) is = absurd is
begun_leaves core number flush written own (turn_refuses turn) is = absurd is
begun_leaves core number flush written own (turn_reserves own_number seen grant turn) is = absurd is
begun_leaves core number flush written own (turn_returns own_number turn) is = absurd is
begun_leaves core number flush written own (turn_empties own_number seen cut opened durable) is = absurd is
begun_leaves core number flush written own (turn_opens slot done cut opened) is = absurd is
begun_leaves core number flush written own (turn_lands turn) is = absurd is
begun_leaves core number flush written own (turn_fails facts cut fail) is = absurd is
begun_leaves core number flush written own (turn_fails_begun facts fail) is = absurd is

-- and so it has while it goes on
going_leaves : (core number : ℕ) (flush : Flush) (own : OwnTold) (one : BoxTurn) → TellsGoing core number flush one → HasFlightFor flush own
    → HasFlightFor flush (own_from (at_box core (labels_in one)) own)
going_leaves core number flush own (turn_works facts) is has = subst (HasFlightFor flush) (sym (work_leaves core own (turn_works facts) is)) has
going_leaves core number flush own (turn_opens slot done cut opened) is has =
    record { flight = opened_flight has.flight; flies = ap (option_map opened_flight) has.flies; flush_is = has.flush_is }
going_leaves core number flush own (turn_refuses turn) is has = absurd is
going_leaves core number flush own (turn_reserves own_number seen grant turn) is has = absurd is
going_leaves core number flush own (turn_returns own_number turn) is has = absurd is
going_leaves core number flush own (turn_empties own_number seen cut opened durable) is has = absurd is
going_leaves core number flush own (turn_begins filling own_number node stamp blocks inodes) is has = absurd is
going_leaves core number flush own (turn_lands turn) is has = absurd is
going_leaves core number flush own (turn_fails facts cut fail) is has = absurd is
going_leaves core number flush own (turn_fails_begun facts fail) is has = absurd is

module _ (stamps : ℕ → ℕ) (core number : ℕ) (flush : Flush) (named : stamps number ≡ flush.stamp) where
  -- turns of work, and what they leave
  works_tell : (way : List BoxTurn) (own : OwnTold) → AreTurns TellsWork way
      → TellTurns stamps core own way × (own_from (events_in core way) own ≡ own)
  works_tell [] own ways = (tt, refl)
  works_tell (one ∷ way) own ways =
      let same = work_leaves core own one ways.0 in
      let rest = works_tell way own ways.1 in (
        (work_tells stamps core own number flush one ways.0, subst (λ o. TellTurns stamps core o way) (sym same) rest.0),
        own_both (at_box core (labels_in one)) (events_in core way) own ∙ (ap (own_from (events_in core way)) same ∙ rest.1),
      )

  -- turns of a commit in a slot
  goings_tell : (way : List BoxTurn) (own : OwnTold) → AreTurns (TellsGoing core number flush) way → HasFlightFor flush own
      → TellTurns stamps core own way × HasFlightFor flush (own_from (events_in core way) own)
  goings_tell [] own ways has = (tt, has)
  goings_tell (one ∷ way) own ways has =
      let later = going_leaves core number flush own one ways.0 has in
      let rest = goings_tell way (own_from (at_box core (labels_in one)) own) ways.1 later in (
        (going_tells stamps core own number flush named one ways.0, rest.0),
        subst (HasFlightFor flush) (sym (own_both (at_box core (labels_in one)) (events_in core way) own)) rest.1,
      )

  -- what a core told behind some turns and one more
  own_last : (way : List BoxTurn) (last : BoxTurn) (own : OwnTold)
      → own_from (events_in core (way ++ last ∷ [])) own ≡ own_from (at_box core (labels_in last)) (own_from (events_in core way) own)
  own_last way last own =
      ap (λ l. own_from l own) (events_both core way (last ∷ []))
      ∙ (own_both (events_in core way) (at_box core (labels_in last) ++ []) own
      ∙ ap (λ l. own_from l (own_from (events_in core way) own)) (append-nil (at_box core (labels_in last))))

  unbegun_turns : (written : Written) (refused : CommitFault) (own : OwnTold) (turns : List BoxTurn) → own.reserved ≡ Some number
      → AreTurnsTo TellsWork (TellsUnbegun core flush written number refused) turns → TellTurns stamps core own turns
  unbegun_turns written refused own turns had told =
      let works = works_tell told.way own told.ways in
      subst (TellTurns stamps core own) (sym told.turns_are)
      (tell_both stamps core own told.way (told.last ∷ []) works.0
      (subst (λ o. TellTurns stamps core o (told.last ∷ [])) (sym works.1)
      (unbegun_tells stamps core own number flush named written refused told.last had told.is, tt)))

  begun_turns : (written : Written) (own : OwnTold) (result : Result Ack CommitFault) (turns : List BoxTurn)
      → BeginsAndEnds core flush written number result turns → TellTurns stamps core own turns
  begun_turns written own result turns told =
      let begins = told.begins in
      let ends = told.ends in
      let works = works_tell begins.way own begins.ways in
      let first : TellTurns stamps core own (begins.way ++ begins.last ∷ []) =
      tell_both stamps core own begins.way (begins.last ∷ []) works.0
      (subst (λ o. TellTurns stamps core o (begins.last ∷ [])) (sym works.1)
      (begin_tells stamps core own number flush named written begins.last begins.is, tt)) in
      let there : HasFlightFor flush (own_from (events_in core told.first) own) =
      subst (λ l. HasFlightFor flush (own_from (events_in core l) own)) (sym begins.turns_are)
      (subst (HasFlightFor flush) (sym (own_last begins.way begins.last own))
      (begun_leaves core number flush written (own_from (events_in core begins.way) own) begins.last begins.is)) in
      let goes = goings_tell ends.way (own_from (events_in core told.first) own) ends.ways there in
      let second : TellTurns stamps core (own_from (events_in core told.first) own) told.second =
      subst (TellTurns stamps core (own_from (events_in core told.first) own)) (sym ends.turns_are)
      (tell_both stamps core (own_from (events_in core told.first) own) ends.way (ends.last ∷ []) goes.0 (
        end_tells stamps core (own_from (events_in core ends.way) (own_from (events_in core told.first) own)) number flush named result ends.last goes.1 ends.is,
        tt,
      )) in
      subst (TellTurns stamps core own) (sym told.turns_are)
      (tell_both stamps core own told.first told.second (subst (TellTurns stamps core own) (sym begins.turns_are) first) second)

  return_turns : (own : OwnTold) (turns : List BoxTurn) → IsOneTurn (TellsReturn core number flush) turns → TellTurns stamps core own turns
  return_turns own [] is = absurd is
  return_turns own (one ∷ []) is = (return_tells stamps core own number flush named one is, tt)
  return_turns own (one ∷ other ∷ turns) is = absurd is

pub commits_tell : CommitsTell
commits_tell stamps core number flush written own (Ok ack) turns reserved told =
    begun_turns stamps core number flush reserved.named written own (Ok ack) turns told
commits_tell stamps core number flush written own (Err (fault.DiskFailed faults)) turns reserved told = elim told [
  | inl unbegun ↦ unbegun_turns stamps core number flush reserved.named written (fault.DiskFailed faults) own turns reserved.had unbegun
  | inr begun ↦ begun_turns stamps core number flush reserved.named written own (Err (fault.DiskFailed faults)) turns begun
]
commits_tell stamps core number flush written own (Err (fault.NoSpace kind need free)) turns reserved told = absurd told
commits_tell stamps core number flush written own (Err (fault.Stopped faults)) turns reserved told = elim told [
  | inl unbegun ↦ unbegun_turns stamps core number flush reserved.named written (fault.Stopped faults) own turns reserved.had unbegun
  | inr begun ↦ begun_turns stamps core number flush reserved.named written own (Err (fault.Stopped faults)) turns begun
]
commits_tell stamps core number flush written own (Err (fault.Moved node last)) turns reserved told = absurd told
commits_tell stamps core number flush written own (Err fault.NoMemory) turns reserved told =
    return_turns stamps core number flush reserved.named own turns told
