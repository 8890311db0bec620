-- That cores whose pens tell turn by turn at the box owe nothing more beside the rules of labels.
use Rattle.std.proofs.Common.{◌≡◌, ◌⊎◌, ◌∷◌, ◌++◌, ◌∙◌, if◌then◌else◌, ◌≢◌, ℕ, List, [], refl, sym, ap, subst, inl, inr, Bool, true, false, Some, append_assoc, append-nil, option_map}
use Rattle.tree_laws.specs.declared.turns.Turn.{Turn}
use Rattle.tree_laws.specs.declared.turns.TurnAct.TheVariants as act
use Rattle.tree_laws.specs.declared.turns.TurnAct.{TurnAct}
use Rattle.cut_laws.specs.Closure.{Flush}
use Rattle.stamp_table.specs.declared.event.Event.{Event}
use Rattle.stamp_table.specs.declared.event.Event.TheVariants.{Told}
use Rattle.slot_laws.specs.Labels.{OwnTold, own_label, opened_flight, own_from, nothing_told}
use Rattle.slot_laws.specs.declared.label.Label.{Label}
use Rattle.slot_laws.specs.Telling.{is_halted, is_short, IsOfStep, IsOfWork, AreOfWork, AreSteps, HasFlightFor, labels_by, at_box, IsRefusal, BoxTurn, TellsTurn, labels_in, turn_works, turn_refuses, turn_reserves, turn_returns, turn_empties, turn_begins, turn_opens, turn_lands, turn_fails, turn_fails_begun, TellTurns, events_in, IsOfFlight, AreOfFlight}
use Rattle.slot_laws.specs.declared.label.Label.TheVariants as label
use Rattle.slot_laws.specs.Rules.{IsTurnBy}
use Rattle.slot_laws.proofs.Telling.{own_both, labels_both, box_own}
use Rattle.close_laws.specs.Own.{OwesTurn, OwnOwed, owes_nothing, TellsFreely, own_owed, OwnStand, TellsBeside, owes_granted, owes_given_back, NotesFreely, has_numbers, nothing_owed}
use Rattle.close_laws.specs.PenLabels.{PensStandBeside}

-- what a core owes where it owes nothing
abbrev pub free_owed : Bool → OwesTurn → OwnOwed
free_owed granted may = record { granted = granted; owes = owes_nothing; may = may }

-- a step is told freely, and leaves what a core owes
pub record StepTold (stamps : ℕ → ℕ) (may : OwesTurn) (told : OwnTold) (granted : Bool) (fact : Label) : Type 0 where
  pub free : TellsFreely stamps may told fact
  pub owed : own_owed fact (free_owed granted may) ≡ free_owed granted owes_nothing

step_told : (stamps : ℕ → ℕ) (may : OwesTurn) (told : OwnTold) (granted : Bool) (fact : Label) → IsOfStep fact → StepTold stamps may told granted fact
step_told stamps may told granted (label.Filled slot piece done) step = record { free = tt; owed = refl }
step_told stamps may told granted (label.Synced now) step = record { free = tt; owed = refl }
step_told stamps may told granted (label.Opened slot done cut opened) step = record { free = tt; owed = refl }
step_told stamps may told granted (label.Settled slot turn) step = record { free = tt; owed = refl }
step_told stamps may told granted (label.Placed slot n done) step = record { free = tt; owed = refl }
step_told stamps may told granted (label.Shut slot done) step = record { free = tt; owed = refl }
step_told stamps may told granted (label.Idled slot) step = record { free = tt; owed = refl }
step_told stamps may told granted label.Took step = absurd step
step_told stamps may told granted label.Gave step = absurd step
step_told stamps may told granted (label.Noted turn) step = absurd step
step_told stamps may told granted (label.Reserved commit seen grant) step = absurd step
step_told stamps may told granted (label.Returned commit) step = absurd step
step_told stamps may told granted (label.Began filling commit node stamp blocks inodes) step = absurd step
step_told stamps may told granted (label.Learned turn) step = absurd step
step_told stamps may told granted (label.Empty commit cut opened durable) step = absurd step

-- work is steps
work_step : (fact : Label) → IsOfWork fact → IsOfStep fact
work_step (label.Filled slot piece done) work = tt
work_step (label.Synced now) work = tt
work_step (label.Settled slot turn) work = tt
work_step (label.Placed slot n done) work = tt
work_step (label.Shut slot done) work = tt
work_step (label.Idled slot) work = tt
work_step (label.Opened slot done cut opened) work = absurd work
work_step label.Took work = absurd work
work_step label.Gave work = absurd work
work_step (label.Noted turn) work = absurd work
work_step (label.Reserved commit seen grant) work = absurd work
work_step (label.Returned commit) work = absurd work
work_step (label.Began filling commit node stamp blocks inodes) work = absurd work
work_step (label.Learned turn) work = absurd work
work_step (label.Empty commit cut opened durable) work = absurd work

pub works_steps : (facts : List Label) → AreOfWork facts → AreSteps facts
works_steps [] work = tt
works_steps (fact ∷ facts) work = (work_step fact work.0, works_steps facts work.1)

flight_step : (core number : ℕ) (flush : Flush) (fact : Label) → IsOfFlight core number flush fact → IsOfStep fact
flight_step core number flush (label.Opened slot done cut opened) of = tt
flight_step core number flush (label.Filled slot piece done) of = tt
flight_step core number flush (label.Synced now) of = tt
flight_step core number flush (label.Settled slot turn) of = tt
flight_step core number flush (label.Placed slot n done) of = tt
flight_step core number flush (label.Shut slot done) of = tt
flight_step core number flush (label.Idled slot) of = tt
flight_step core number flush label.Took of = absurd of
flight_step core number flush label.Gave of = absurd of
flight_step core number flush (label.Noted turn) of = absurd of
flight_step core number flush (label.Reserved commit seen grant) of = absurd of
flight_step core number flush (label.Returned commit) of = absurd of
flight_step core number flush (label.Began filling commit node stamp blocks inodes) of = absurd of
flight_step core number flush (label.Learned turn) of = absurd of
flight_step core number flush (label.Empty commit cut opened durable) of = absurd of

pub flights_steps : (core number : ℕ) (flush : Flush) (facts : List Label) → AreOfFlight core number flush facts → AreSteps facts
flights_steps core number flush [] of = tt
flights_steps core number flush (fact ∷ facts) of = (flight_step core number flush fact of.0, flights_steps core number flush facts of.1)

-- the commit that fails stays the core's own along steps
abbrev IsOwn : ℕ → Flush → OwnTold → Type 0
IsOwn number flush told = HasFlightFor flush told ⊎ (told.reserved ≡ Some number)

own_step : (number : ℕ) (flush : Flush) (fact : Label) (told : OwnTold) → IsOfStep fact → IsOwn number flush told → IsOwn number flush (own_label fact told)
own_step number flush (label.Filled slot piece done) told step own = own
own_step number flush (label.Synced now) told step own = own
own_step number flush (label.Settled slot turn) told step own = own
own_step number flush (label.Placed slot n done) told step own = own
own_step number flush (label.Shut slot done) told step own = own
own_step number flush (label.Idled slot) told step own = own
own_step number flush (label.Opened slot done cut opened) told step own = elim own [
  | inl has ↦ inl (record { flight = opened_flight has.flight; flies = ap (option_map opened_flight) has.flies; flush_is = has.flush_is })
  | inr reserved ↦ inr reserved
]
own_step number flush label.Took told step own = absurd step
own_step number flush label.Gave told step own = absurd step
own_step number flush (label.Noted turn) told step own = absurd step
own_step number flush (label.Reserved commit seen grant) told step own = absurd step
own_step number flush (label.Returned commit) told step own = absurd step
own_step number flush (label.Began filling commit node stamp blocks inodes) told step own = absurd step
own_step number flush (label.Learned turn) told step own = absurd step
own_step number flush (label.Empty commit cut opened durable) told step own = absurd step

own_steps : (number : ℕ) (flush : Flush) (core : ℕ) (facts : List Label) (told : OwnTold) → AreSteps facts → IsOwn number flush told
    → IsOwn number flush (own_from (labels_by core facts) told)
own_steps number flush core [] told steps own = own
own_steps number flush core (fact ∷ facts) told steps own =
    own_steps number flush core facts (own_label fact told) steps.1 (own_step number flush fact told steps.0 own)

module _ (stamps : ℕ → ℕ) (core : ℕ) where
  abbrev Stands : OwnTold → OwnOwed → List (Event Label) → Type 0
  Stands = OwnStand stamps

  -- steps stand, where what comes behind them does
  steps_stand : (facts : List Label) (told : OwnTold) (granted : Bool) (may : OwesTurn) (rest : List (Event Label)) → AreSteps facts
      → ((last : OwesTurn) → Stands (own_from (labels_by core facts) told) (free_owed granted last) rest)
      → Stands told (free_owed granted may) (labels_by core facts ++ rest)
  steps_stand [] told granted may rest steps behind = behind may
  steps_stand (fact ∷ facts) told granted may rest steps behind =
      let step = step_told stamps may told granted fact steps.0 in (
        step.free,
        subst (λ o. Stands (own_label fact told) o (labels_by core facts ++ rest)) (sym step.owed)
            (steps_stand facts (own_label fact told) granted owes_nothing rest steps.1 behind),
      )

  -- a turn at the box that begins with steps
  box_split : (facts more : List Label) (rest : List (Event Label)) → at_box core (facts ++ more) ++ rest
      ≡ Told (record { 0 = core }) label.Took ∷ (labels_by core facts ++ (labels_by core (more ++ label.Gave ∷ []) ++ rest))
  box_split facts more rest =
      ap (λ l. Told (record { 0 = core }) label.Took ∷ l)
      (ap (λ l. labels_by core l ++ rest) (append_assoc facts more (label.Gave ∷ []))
      ∙ (ap (λ l. l ++ rest) (labels_both core facts (more ++ label.Gave ∷ []))
      ∙ append_assoc (labels_by core facts) (labels_by core (more ++ label.Gave ∷ [])) rest))

  own_split : (facts more : List Label) (told : OwnTold)
      → own_from (at_box core (facts ++ more)) told ≡ own_from (labels_by core more) (own_from (labels_by core facts) told)
  own_split facts more told =
      box_own core (facts ++ more) told
      ∙ (ap (λ l. own_from l told) (labels_both core facts more) ∙ own_both (labels_by core facts) (labels_by core more) told)

  -- what comes behind a turn at the box
  abbrev Behind : OwnTold → List Label → List (Event Label) → Type 0
  Behind told facts rest = (granted : Bool) → Stands (own_from (at_box core facts) told) (free_owed granted owes_nothing) rest

  split_stands : (facts more : List Label) (told : OwnTold) (granted : Bool) (may : OwesTurn) (rest : List (Event Label)) → AreSteps facts
      → Behind told (facts ++ more) rest
      → ((last : OwesTurn) → Stands (own_from (labels_by core more) (own_from (labels_by core facts) told)) (free_owed granted owes_nothing) rest
      → Stands (own_from (labels_by core facts) told) (free_owed granted last) (labels_by core (more ++ label.Gave ∷ []) ++ rest))
      → Stands told (free_owed granted may) (at_box core (facts ++ more) ++ rest)
  split_stands facts more told granted may rest steps behind stand =
      subst (Stands told (free_owed granted may)) (sym (box_split facts more rest)) (
        tt,
        steps_stand facts told granted owes_nothing (labels_by core (more ++ label.Gave ∷ []) ++ rest) steps
            (λ last. stand last (subst (λ t. Stands t (free_owed granted owes_nothing) rest) (own_split facts more told) (behind granted))),
      )

  -- a turn that says that something was granted, or given back, right behind its label
  grant_stands : (number : ℕ) (turn : Turn) (told : OwnTold) → turn.act ≡ act.Granted → turn.stamp.0 ≡ stamps number → (b : Bool)
      → TellsBeside stamps (if b then owes_granted number else owes_nothing) (owes_granted number) told (label.Noted turn)
  grant_stands number turn told did stamp true = record { turn = turn; is = refl; did_is = did; stamp_is = stamp }
  grant_stands number turn told did stamp false = record {
    own_grant = λ is. record { number = number; may_is = refl; stamp_is = stamp };
    own_return = λ is. let never : act.Granted ≡ act.GivenBack = sym did ∙ is in absurd (cc never);
    own_cut = λ is. let never : act.Granted ≡ act.CutAt = sym did ∙ is in absurd (cc never);
  }

  return_stands : (number : ℕ) (turn : Turn) (told : OwnTold) → turn.act ≡ act.GivenBack → turn.stamp.0 ≡ stamps number → (b : Bool)
      → TellsBeside stamps (if b then owes_given_back number else owes_nothing) (owes_given_back number) told (label.Noted turn)
  return_stands number turn told did stamp true = record { turn = turn; is = refl; did_is = did; stamp_is = stamp }
  return_stands number turn told did stamp false = record {
    own_grant = λ is. let never : act.GivenBack ≡ act.Granted = sym did ∙ is in absurd (cc never);
    own_return = λ is. record { number = number; may_is = refl; stamp_is = stamp };
    own_cut = λ is. let never : act.GivenBack ≡ act.CutAt = sym did ∙ is in absurd (cc never);
  }

  -- one that does neither, nor begins a commit
  other_stands : (may : OwesTurn) (turn : Turn) (told : OwnTold) (did : TurnAct) → turn.act ≡ did → did ≢ act.Granted → did ≢ act.GivenBack → did ≢ act.CutAt
      → NotesFreely stamps may told turn
  other_stands may turn told did is no_grant no_return no_cut = record {
    own_grant = λ e. absurd (no_grant (sym is ∙ e));
    own_return = λ e. absurd (no_return (sym is ∙ e));
    own_cut = λ e. absurd (no_cut (sym is ∙ e));
  }

  refusal_stands : (number : ℕ) (flush : Flush) (turn : Turn) (told : OwnTold) (may : OwesTurn) → IsRefusal core number flush turn
      → NotesFreely stamps may told turn
  refusal_stands number flush turn told may (is_halted by) =
      other_stands may turn told act.Halted by.did_is (λ e. cc e) (λ e. cc e) (λ e. cc e)
  refusal_stands number flush turn told may (is_short kind need free by) =
      other_stands may turn told (act.Short kind need free) by.did_is (λ e. cc e) (λ e. cc e) (λ e. cc e)

  fail_stands : (number : ℕ) (flush : Flush) (turn : Turn) (told : OwnTold) (may : OwesTurn) → IsTurnBy turn act.Fail core number flush
      → NotesFreely stamps may told turn
  fail_stands number flush turn told may by = other_stands may turn told act.Fail by.did_is (λ e. cc e) (λ e. cc e) (λ e. cc e)

  -- a commit that begins as it fails is the core's own
  cut_stands : (number : ℕ) (flush : Flush) (turn : Turn) (told : OwnTold) (may : OwesTurn) → IsTurnBy turn act.CutAt core number flush
      → stamps number ≡ flush.stamp → IsOwn number flush told → NotesFreely stamps may told turn
  cut_stands number flush turn told may by named own = record {
    own_grant = λ e. let never : act.CutAt ≡ act.Granted = sym by.did_is ∙ e in absurd (cc never);
    own_return = λ e. let never : act.CutAt ≡ act.GivenBack = sym by.did_is ∙ e in absurd (cc never);
    own_cut = λ e. elim own [
      | inl has ↦ inl (record {
        flight = has.flight;
        flies = has.flies;
        stamp_is = ap (λ (f : Flush). f.stamp) (by.flush_is ∙ sym has.flush_is);
      })
      | inr reserved ↦ inr (record { number = number; reserved = reserved; stamp_is = ap (λ (f : Flush). f.stamp) by.flush_is ∙ sym named })
    ];
  }

  turn_stands : (one : BoxTurn) (told : OwnTold) (granted : Bool) (may : OwesTurn) (rest : List (Event Label)) → TellsTurn stamps core told one
      → Behind told (labels_in one) rest → Stands told (free_owed granted may) (at_box core (labels_in one) ++ rest)
  turn_stands (turn_works facts) told granted may rest tells behind =
      subst (λ l. Stands told (free_owed granted may) (at_box core l ++ rest)) (append-nil facts)
      (split_stands facts [] told granted may rest (works_steps facts tells.is)
      (subst (λ l. Behind told l rest) (sym (append-nil facts)) behind) (λ last there. (tt, there)))
  turn_stands (turn_refuses turn) told granted may rest tells behind =
      (tt, (refusal_stands tells.number tells.flush turn told owes_nothing tells.is, (tt, behind granted)))
  turn_stands (turn_reserves number seen grant turn) told granted may rest tells behind =
      let stamp : turn.stamp.0 ≡ stamps number =
      ap (λ (f : Flush). f.stamp) tells.is.1.flush_is ∙ (sym tells.named ∙ ap stamps (sym tells.is.0)) in (
        tt,
        (
          tt,
          (
            grant_stands number turn (own_label (label.Reserved number seen grant) told) tells.is.1.did_is stamp (has_numbers grant),
            (tt, behind (has_numbers grant)),
          ),
        ),
      )
  turn_stands (turn_returns number turn) told granted may rest tells behind =
      let stamp : turn.stamp.0 ≡ stamps number =
      ap (λ (f : Flush). f.stamp) tells.is.1.flush_is ∙ (sym tells.named ∙ ap stamps (sym tells.is.0)) in
      (tt, (tt, (return_stands number turn (own_label (label.Returned number) told) tells.is.1.did_is stamp granted, (tt, behind false))))
  turn_stands (turn_empties number seen cut opened durable) told granted may rest tells behind =
      let stamp : cut.stamp.0 ≡ stamps number =
      ap (λ (f : Flush). f.stamp) tells.is.1.flush_is ∙ (sym tells.named ∙ ap stamps (sym tells.is.0)) in
      (tt, (tt, (stamp, (tt, behind false))))
  turn_stands (turn_begins filling number node stamp blocks inodes) told granted may rest tells behind =
      let own : stamp.0 ≡ stamps number = ap (λ (f : Flush). f.stamp) tells.is.1 ∙ (sym tells.named ∙ ap stamps (sym tells.is.0)) in
      (tt, (own, (tt, behind granted)))
  turn_stands (turn_opens slot done cut opened) told granted may rest tells behind = (tt, (tt, (tt, behind granted)))
  turn_stands (turn_lands turn) told granted may rest tells behind = (tt, (tt, (tt, behind granted)))
  turn_stands (turn_fails facts cut fail) told granted may rest tells behind =
      split_stands facts (label.Noted cut ∷ label.Noted fail ∷ []) told granted may rest (works_steps facts tells.is.0) behind
      (λ last there. (
        cut_stands tells.number tells.flush cut (own_from (labels_by core facts) told) last tells.is.1 tells.named
            (own_steps tells.number tells.flush core facts told (works_steps facts tells.is.0) tells.mine),
        (
          fail_stands tells.number tells.flush fail (own_label (label.Noted cut) (own_from (labels_by core facts) told)) owes_nothing tells.is.2,
          (tt, there),
        ),
      ))
  turn_stands (turn_fails_begun facts fail) told granted may rest tells behind =
      split_stands facts (label.Noted fail ∷ []) told granted may rest (flights_steps core tells.number tells.flush facts tells.is.0) behind
      (λ last there. (fail_stands tells.number tells.flush fail (own_from (labels_by core facts) told) last tells.is.1, (tt, there)))

  turns_stand : (turns : List BoxTurn) (told : OwnTold) (granted : Bool) (may : OwesTurn) → TellTurns stamps core told turns
      → Stands told (free_owed granted may) (events_in core turns)
  turns_stand [] told granted may tells = tt
  turns_stand (one ∷ turns) told granted may tells =
      turn_stands one told granted may (events_in core turns) tells.0
      (λ left. turns_stand turns (own_from (at_box core (labels_in one)) told) left owes_nothing tells.1)

pub pens_stand_beside : PensStandBeside
pens_stand_beside stamps log pens core =
    subst (OwnStand stamps nothing_told nothing_owed) (sym (pens core).mine_is)
    (turns_stand stamps core (pens core).turns nothing_told false owes_nothing (pens core).tells)
