-- What turns at the box make of what a core told.
use Rattle.std.proofs.Common.{◌≡◌, ◌∷◌, ◌++◌, ◌∙◌, ℕ, List, [], refl, sym, ap, subst, append_assoc, append-nil, flat_map, inl, inr}
use Rattle.std.proofs.lemmas.Grind.{flat_map-append}
use Rattle.tree_laws.specs.declared.turns.Turn.{Turn}
use Rattle.tree_laws.specs.declared.turns.TurnAct.{TurnAct}
use Rattle.tree_laws.specs.declared.turns.TurnAct.TheVariants as act
use Rattle.cut_laws.specs.Closure.{Flush}
use Rattle.cut_laws.specs.Rules.{IsOneOf}
use Rattle.cut_laws.proofs.Basics.{in_either}
use Rattle.turn_laws.specs.Books.{flush_at}
use Rattle.stamp_table.specs.declared.event.Event.{Event}
use Rattle.stamp_table.specs.declared.event.Event.TheVariants.{Told}
use Rattle.slot_laws.specs.declared.label.Label.{Label}
use Rattle.slot_laws.specs.declared.label.Label.TheVariants as label
use Rattle.slot_laws.specs.Labels.{OwnTold, nothing_told, own_event, own_from, own_label}
use Rattle.slot_laws.specs.Telling.{is_halted, is_short, AreOfWork, BoxTurn, IsOfWork, PensGoOn, PensTellTurns, TellTurns, at_box, events_in, labels_by, labels_in, turns_in, turns_told, IsOfFlight, AreOfFlight, IsTurnFor, turn_works, turn_refuses, turn_reserves, turn_returns, turn_empties, turn_begins, turn_opens, turn_lands, turn_fails, turn_fails_begun, TurnsAreOfOne}
use Rattle.slot_laws.specs.Rules.{IsTurnBy}

-- some events and then others
pub own_both : (log more : List (Event Label)) (own : OwnTold) → own_from (log ++ more) own ≡ own_from more (own_from log own)
own_both [] more own = refl
own_both (event ∷ log) more own = own_both log more (own_event event own)

pub labels_both : (core : ℕ) (facts more : List Label) → labels_by core (facts ++ more) ≡ labels_by core facts ++ labels_by core more
labels_both core [] more = refl
labels_both core (fact ∷ facts) more = ap (λ l. Told (record { 0 = core }) fact ∷ l) (labels_both core facts more)

-- to take the box and to bring it home changes nothing of what a core told
pub box_own : (core : ℕ) (facts : List Label) (own : OwnTold) → own_from (at_box core facts) own ≡ own_from (labels_by core facts) own
box_own core facts own =
    ap (λ l. own_from l own) (labels_both core facts (label.Gave ∷ [])) ∙ own_both (labels_by core facts) (labels_by core (label.Gave ∷ [])) own

-- neither does work at slots
work_own : (fact : Label) (own : OwnTold) → IsOfWork fact → own_label fact own ≡ own
work_own (label.Filled slot piece done) own work = refl
work_own (label.Synced now) own work = refl
work_own (label.Settled slot turn) own work = refl
work_own (label.Placed slot n done) own work = refl
work_own (label.Shut slot done) own work = refl
work_own (label.Idled slot) own work = refl
work_own label.Took own work = absurd work
work_own label.Gave own work = absurd work
work_own (label.Noted turn) own work = absurd work
work_own (label.Reserved commit seen grant) own work = absurd work
work_own (label.Returned commit) own work = absurd work
work_own (label.Began filling commit node stamp blocks inodes) own work = absurd work
work_own (label.Opened slot done cut opened) own work = absurd work
work_own (label.Learned turn) own work = absurd work
work_own (label.Empty commit cut opened durable) own work = absurd work

pub works_own : (core : ℕ) (facts : List Label) (own : OwnTold) → AreOfWork facts → own_from (labels_by core facts) own ≡ own
works_own core [] own work = refl
works_own core (fact ∷ facts) own work = ap (own_from (labels_by core facts)) (work_own fact own work.0) ∙ works_own core facts own work.1

-- some turns at the box and then others
pub events_both : (core : ℕ) (turns more : List BoxTurn) → events_in core (turns ++ more) ≡ events_in core turns ++ events_in core more
events_both core [] more = refl
events_both core (one ∷ turns) more =
    ap (λ l. at_box core (labels_in one) ++ l) (events_both core turns more)
    ∙ sym (append_assoc (at_box core (labels_in one)) (events_in core turns) (events_in core more))

pub tell_both : (stamps : ℕ → ℕ) (core : ℕ) (own : OwnTold) (turns more : List BoxTurn) → TellTurns stamps core own turns
    → TellTurns stamps core (own_from (events_in core turns) own) more → TellTurns stamps core own (turns ++ more)
tell_both stamps core own [] more first second = second
tell_both stamps core own (one ∷ turns) more first second = (
  first.0,
  tell_both stamps core (own_from (at_box core (labels_in one)) own) turns more first.1
      (subst (λ o. TellTurns stamps core o more) (own_both (at_box core (labels_in one)) (events_in core turns) own) second),
)

pub pens_go_on : PensGoOn
pens_go_on stamps core mine turns told tells = record {
  turns = told.turns ++ turns;
  mine_is = ap (λ l. l ++ events_in core turns) told.mine_is ∙ sym (events_both core told.turns turns);
  tells = tell_both stamps core nothing_told told.turns turns told.tells (subst (λ l. TellTurns stamps core (own_from l nothing_told) turns) told.mine_is tells);
}

-- the turns that labels tell
label_told : (fact : Label) (own : OwnTold) → (own_label fact own).told ≡ own.told ++ turns_told fact
label_told (label.Noted turn) own = refl
label_told (label.Opened slot done cut opened) own = refl
label_told (label.Learned turn) own = refl
label_told (label.Empty commit cut opened durable) own = refl
label_told label.Took own = sym (append-nil own.told)
label_told label.Gave own = sym (append-nil own.told)
label_told (label.Reserved commit seen grant) own = sym (append-nil own.told)
label_told (label.Returned commit) own = sym (append-nil own.told)
label_told (label.Began filling commit node stamp blocks inodes) own = sym (append-nil own.told)
label_told (label.Filled slot piece done) own = sym (append-nil own.told)
label_told (label.Synced now) own = sym (append-nil own.told)
label_told (label.Settled slot turn) own = sym (append-nil own.told)
label_told (label.Placed slot n done) own = sym (append-nil own.told)
label_told (label.Shut slot done) own = sym (append-nil own.told)
label_told (label.Idled slot) own = sym (append-nil own.told)

pub labels_told : (core : ℕ) (facts : List Label) (own : OwnTold) → (own_from (labels_by core facts) own).told ≡ own.told ++ flat_map turns_told facts
labels_told core [] own = sym (append-nil own.told)
labels_told core (fact ∷ facts) own =
    labels_told core facts (own_label fact own)
    ∙ (ap (λ l. l ++ flat_map turns_told facts) (label_told fact own) ∙ append_assoc own.told (turns_told fact) (flat_map turns_told facts))

events_told : (core : ℕ) (turns : List BoxTurn) (own : OwnTold) → (own_from (events_in core turns) own).told ≡ own.told ++ turns_in turns
events_told core [] own = sym (append-nil own.told)
events_told core (one ∷ turns) own =
    ap (λ (o : OwnTold). o.told) (own_both (at_box core (labels_in one)) (events_in core turns) own)
    ∙ (events_told core turns (own_from (at_box core (labels_in one)) own)
    ∙ (ap (λ (o : OwnTold). o.told ++ turns_in turns) (box_own core (labels_in one) own)
    ∙ (ap (λ l. l ++ turns_in turns) (labels_told core (labels_in one) own)
    ∙ append_assoc own.told (flat_map turns_told (labels_in one)) (turns_in turns))))

pub pens_tell_turns : PensTellTurns
pens_tell_turns core turns = events_told core turns nothing_told

-- the turns of one turn at the box
work_none : (fact : Label) → IsOfWork fact → turns_told fact ≡ []
work_none (label.Filled slot piece done) work = refl
work_none (label.Synced now) work = refl
work_none (label.Settled slot turn) work = refl
work_none (label.Placed slot n done) work = refl
work_none (label.Shut slot done) work = refl
work_none (label.Idled slot) work = refl
work_none label.Took work = absurd work
work_none label.Gave work = absurd work
work_none (label.Noted turn) work = absurd work
work_none (label.Reserved commit seen grant) work = absurd work
work_none (label.Returned commit) work = absurd work
work_none (label.Began filling commit node stamp blocks inodes) work = absurd work
work_none (label.Opened slot done cut opened) work = absurd work
work_none (label.Learned turn) work = absurd work
work_none (label.Empty commit cut opened durable) work = absurd work

pub works_none : (facts : List Label) → AreOfWork facts → flat_map turns_told facts ≡ []
works_none [] work = refl
works_none (fact ∷ facts) work = ap (λ l. l ++ flat_map turns_told facts) (work_none fact work.0) ∙ works_none facts work.1

module _ (core number : ℕ) (flush : Flush) where
  -- a turn is of the core and of the fsync
  abbrev IsOf : Turn → Type 0
  IsOf turn = (turn.core.0 ≡ core) × (flush_at turn ≡ flush)

  by_of : (did : TurnAct) (turn : Turn) → IsTurnBy turn did core number flush → IsOf turn
  by_of did turn by = (by.core_is, by.flush_is)

  one_of : (one turn : Turn) → IsOf one → IsOneOf (one ∷ []) turn → IsOf turn
  one_of one turn of (inl same) = subst IsOf same of
  one_of one turn of (inr none) = absurd none

  two_of : (one two turn : Turn) → IsOf one → IsOf two → IsOneOf (one ∷ two ∷ []) turn → IsOf turn
  two_of one two turn of of_two (inl same) = subst IsOf same of
  two_of one two turn of of_two (inr there) = one_of two turn of_two there

  three_of : (one two three turn : Turn) → IsOf one → IsOf two → IsOf three → IsOneOf (one ∷ two ∷ three ∷ []) turn → IsOf turn
  three_of one two three turn of of_two of_three (inl same) = subst IsOf same of
  three_of one two three turn of of_two of_three (inr there) = two_of two three turn of_two of_three there

  flight_of : (fact : Label) (turn : Turn) → IsOfFlight core number flush fact → IsOneOf (turns_told fact) turn → IsOf turn
  flight_of (label.Opened slot done cut opened) turn of among = two_of cut opened turn (by_of act.CutAt cut of.0) (by_of act.Opened opened of.1) among
  flight_of (label.Filled slot piece done) turn of among = absurd among
  flight_of (label.Synced now) turn of among = absurd among
  flight_of (label.Settled slot settled) turn of among = absurd among
  flight_of (label.Placed slot n done) turn of among = absurd among
  flight_of (label.Shut slot done) turn of among = absurd among
  flight_of (label.Idled slot) turn of among = absurd among
  flight_of label.Took turn of among = absurd of
  flight_of label.Gave turn of among = absurd of
  flight_of (label.Noted noted) turn of among = absurd of
  flight_of (label.Reserved commit seen grant) turn of among = absurd of
  flight_of (label.Returned commit) turn of among = absurd of
  flight_of (label.Began filling commit node stamp blocks inodes) turn of among = absurd of
  flight_of (label.Learned learned) turn of among = absurd of
  flight_of (label.Empty commit cut opened durable) turn of among = absurd of

  flights_of : (facts : List Label) (turn : Turn) → AreOfFlight core number flush facts → IsOneOf (flat_map turns_told facts) turn → IsOf turn
  flights_of [] turn of among = absurd among
  flights_of (fact ∷ facts) turn of among = elim (in_either (turns_told fact) (flat_map turns_told facts) turn among) [
    | inl here ↦ flight_of fact turn of.0 here
    | inr there ↦ flights_of facts turn of.1 there
  ]

  labels_of_one : (one : BoxTurn) (turn : Turn) → IsTurnFor core number flush one → IsOneOf (flat_map turns_told (labels_in one)) turn → IsOf turn
  labels_of_one (turn_works facts) turn is among = absurd (subst (λ l. IsOneOf l turn) (works_none facts is) among)
  labels_of_one (turn_refuses refused) turn (is_halted by) among = one_of refused turn (by_of act.Halted refused by) among
  labels_of_one (turn_refuses refused) turn (is_short kind need free by) among = one_of refused turn (by_of (act.Short kind need free) refused by) among
  labels_of_one (turn_reserves own seen grant granted) turn is among = one_of granted turn (by_of act.Granted granted is.1) among
  labels_of_one (turn_returns own returned) turn is among = one_of returned turn (by_of act.GivenBack returned is.1) among
  labels_of_one (turn_empties own seen cut opened durable) turn is among =
      three_of cut opened durable turn (by_of act.CutAt cut is.1) (by_of act.Opened opened is.2) (by_of act.Durable durable is.3) among
  labels_of_one (turn_begins filling own node stamp blocks inodes) turn is among = absurd among
  labels_of_one (turn_opens slot done cut opened) turn is among = two_of cut opened turn (by_of act.CutAt cut is.0) (by_of act.Opened opened is.1) among
  labels_of_one (turn_lands landed) turn is among = one_of landed turn (by_of act.Durable landed is) among
  labels_of_one (turn_fails facts cut fail) turn is among =
      two_of cut fail turn (by_of act.CutAt cut is.1) (by_of act.Fail fail is.2)
      (subst (λ l. IsOneOf l turn) (flat_map-append turns_told facts (label.Noted cut ∷ label.Noted fail ∷ [])
      ∙ ap (λ l. l ++ cut ∷ fail ∷ []) (works_none facts is.0)) among)
  labels_of_one (turn_fails_begun facts fail) turn is among =
      elim (in_either (flat_map turns_told facts) (fail ∷ []) turn
      (subst (λ l. IsOneOf l turn) (flat_map-append turns_told facts (label.Noted fail ∷ [])) among)) [
        | inl step ↦ flights_of facts turn is.0 step
        | inr failed ↦ one_of fail turn (by_of act.Fail fail is.1) failed
      ]

pub turns_are_of_one : TurnsAreOfOne
turns_are_of_one stamps core own one tells turn among =
    labels_of_one core tells.number tells.flush one turn tells.is (subst (λ l. IsOneOf l turn) (append-nil (flat_map turns_told (labels_in one))) among)
