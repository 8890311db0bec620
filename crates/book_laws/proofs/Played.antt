-- What a play tells of the phases of fsyncs: those that wait have reserved, those aloft have begun, and none stands twice.
use Rattle.std.specs.Option.{option_or}
use Rattle.std.proofs.Common.{◌≡◌, ◌≢◌, ◌⊎◌, ◌∷◌, ◌++◌, ◌∙◌, ℕ, Bool, true, false, List, [], map, Option, Some, inl, inr, refl, sym, ap, subst}
use Rattle.sfs_base.proofs.BasicTruth.{false_not_true}
use Rattle.sfs_base.proofs.BasicOptions.{or_none}
use Rattle.tree_laws.specs.declared.turns.Turn.{Turn}
use Rattle.tree_laws.specs.declared.turns.TurnAct.{TurnAct}
use Rattle.tree_laws.specs.declared.turns.TurnAct.TheVariants as act
use Rattle.cut_laws.specs.Rules.{IsOneOf}
use Rattle.turn_laws.specs.Ways.{own_turns}
use Rattle.merge_laws.specs.Phases.{Phase, no_turn_yet, has_reserved, has_begun, has_opened, is_durable, has_ended, is_stuck, flies_in, after_halt, next_phase, phase_after, phase_of}
use Rattle.merge_laws.specs.Pens.{failure_by, failed_in}
use Rattle.merge_laws.specs.Plays.{Aloft, PlayState, FliesOnce, StopsWaiting, PlaysAct, Plays, no_play, one_play}
use Rattle.merge_laws.proofs.Lists.{among_at, stands_at}
use Rattle.merge_laws.proofs.Phases.{phase_on, phase_stays}
use Rattle.merge_laws.proofs.Follows.{failed_more}
use Rattle.merge_laws.proofs.Playing.{KeysDiffer, FitsPhase, fits_flies, FitsPhases, fits_nothing, MovesOn, WaitingMoves, AloftMoves, fits_on, waiting_same, waiting_more, waiting_less, aloft_same, aloft_more, aloft_less, aloft_marked}

-- What a play tells behind some turns.
pub record PlayFits (turns : List Turn) (at : PlayState) : Type 0 where
  pub fits : FitsPhases (λ stamp. phase_of stamp turns) at.waiting at.aloft
  pub failed : at.failed ≡ failed_in turns

module _ (front : List Turn) (turn : Turn) (at : PlayState) (fits : FitsPhases (λ stamp. phase_of stamp front) at.waiting at.aloft) where
  abbrev was : ℕ → Phase
  was other = phase_of other front

  abbrev then : ℕ → Phase
  then other = phase_of other (front ++ turn ∷ [])

  abbrev own : ℕ
  own = turn.stamp.0

  moves : MovesOn was then own
  moves = record { others = λ other apart. phase_stays front turn other apart }

  fitting : (waiting : List ℕ) (aloft : List Aloft) → WaitingMoves was then own moves at.waiting waiting → AloftMoves was then own moves at.aloft aloft
      → FitsPhases then waiting aloft
  fitting waiting aloft wait fly = fits_on was then own moves at.waiting waiting at.aloft aloft fits wait fly

  first_phase : own_turns own front ≡ [] → was own ≡ no_turn_yet
  first_phase none = ap (λ (l : List Turn). phase_after no_turn_yet (map (λ (t : Turn). t.act) l)) none

  -- an fsync whose commit is not aloft has no flight
  no_flight : flies_in (was own) ≡ false → (flight : Aloft) → IsOneOf at.aloft flight → flight.stamp ≢ own
  no_flight never flight one same =
      false_not_true
      (sym never ∙ ap (λ (n : ℕ). flies_in (was n)) (sym same) ∙ fits_flies flight.opened (was flight.stamp) (fits.flies flight one))

  no_wait : flies_in (was own) ≡ true → IsOneOf at.waiting own → ⊥
  no_wait flies one = false_not_true (sym (ap flies_in (fits.waits own one)) ∙ flies)

  waited_phase : (left : List ℕ) → StopsWaiting at own left → was own ≡ has_reserved
  waited_phase left stops = fits.waits own (subst (λ (l : List ℕ). IsOneOf l own) (sym stops.waits.whole) (among_at stops.before own stops.behind))

  flight_flies : (before behind : List Aloft) (opened : Bool) → FliesOnce at.aloft before behind (record { stamp = own; opened = opened })
      → flies_in (was own) ≡ true
  flight_flies before behind opened once =
      fits_flies opened (was own)
      (fits.flies (record { stamp = own; opened = opened })
      (subst (λ (l : List Aloft). IsOneOf l (record { stamp = own; opened = opened })) (sym once.whole)
      (among_at before (record { stamp = own; opened = opened }) behind)))

  wait_less : (left : List ℕ) → StopsWaiting at own left → (then own ≡ has_reserved → ⊥) → WaitingMoves was then own moves at.waiting left
  wait_less left stops never =
      subst (WaitingMoves was then own moves at.waiting) (sym stops.left_is)
      (subst (λ (l : List ℕ). WaitingMoves was then own moves l (stops.before ++ stops.behind)) (sym stops.waits.whole)
      (waiting_less was then own moves stops.before stops.behind (subst (KeysDiffer (λ (other : ℕ). other)) stops.waits.whole fits.waits_once) never))

  wait_same : (IsOneOf at.waiting own → ⊥) → (then own ≡ has_reserved → ⊥) → WaitingMoves was then own moves at.waiting at.waiting
  wait_same away never = waiting_same was then own moves at.waiting fits.waits_once away never

  fly_same : flies_in (was own) ≡ false → flies_in (then own) ≡ false → AloftMoves was then own moves at.aloft at.aloft
  fly_same before never = aloft_same was then own moves at.aloft fits.flies_once (no_flight before) never

  fly_more : ((flight : Aloft) → IsOneOf at.aloft flight → flight.stamp ≢ own) → then own ≡ has_begun
      → AloftMoves was then own moves at.aloft (at.aloft ++ record { stamp = own; opened = false } ∷ [])
  fly_more away is = aloft_more was then own moves at.aloft fits.flies_once away is

  fly_marked : (before behind : List Aloft) (opened mark : Bool) → at.aloft ≡ before ++ record { stamp = own; opened = opened } ∷ behind
      → FitsPhase mark (then own) → AloftMoves was then own moves at.aloft (before ++ record { stamp = own; opened = mark } ∷ behind)
  fly_marked before behind opened mark whole is =
      subst (λ (l : List Aloft). AloftMoves was then own moves l (before ++ record { stamp = own; opened = mark } ∷ behind)) (sym whole)
      (aloft_marked was then own moves before opened mark behind (subst (KeysDiffer (λ (flight : Aloft). flight.stamp)) whole fits.flies_once) is)

  fly_less : (before behind : List Aloft) (opened : Bool) → at.aloft ≡ before ++ record { stamp = own; opened = opened } ∷ behind
      → flies_in (then own) ≡ false → AloftMoves was then own moves at.aloft (before ++ behind)
  fly_less before behind opened whole never =
      subst (λ (l : List Aloft). AloftMoves was then own moves l (before ++ behind)) (sym whole)
      (aloft_less was then own moves before opened behind (subst (KeysDiffer (λ (flight : Aloft). flight.stamp)) whole fits.flies_once) never)

  fly_still : (before behind : List Aloft) (opened : Bool) → at.aloft ≡ before ++ record { stamp = own; opened = opened } ∷ behind
      → then own ≡ is_stuck → AloftMoves was then own moves at.aloft at.aloft
  fly_still before behind opened whole is =
      subst (AloftMoves was then own moves at.aloft) (sym whole)
      (fly_marked before behind opened opened whole (subst (FitsPhase opened) (sym is) tt))

  -- where its commit is stuck
  halts_aloft : flies_in (was own) ≡ true → then own ≡ is_stuck → AloftMoves was then own moves at.aloft at.aloft
  halts_aloft flies is =
      let its = fits.flying own flies in
      let there = stands_at at.aloft its.0 its.1 in
      fly_still there.front there.back its.0.opened
      (there.whole ∙ ap (λ (f : Aloft). there.front ++ f ∷ there.back) (λ i. record { stamp = its.2 i; opened = its.0.opened })) is

  abbrev FitsThen : PlayState → Type 0
  FitsThen state = FitsPhases then state.waiting state.aloft

  is_not : (phase : Phase) → then own ≡ phase → (phase ≡ has_reserved → ⊥) → then own ≡ has_reserved → ⊥
  is_not phase is never same = never (sym is ∙ same)

  halts_by : (left : List ℕ) (b : Bool) → flies_in (was own) ≡ b → then own ≡ after_halt b
      → StopsWaiting at own left ⊎ ((left ≡ at.waiting) × (IsOneOf at.waiting own → ⊥)) → FitsPhases then left at.aloft
  halts_by left true flies is waited = elim waited [
    | inl stops ↦ absurd (false_not_true (sym (ap flies_in (waited_phase left stops)) ∙ flies))
    | inr stays ↦
        subst (λ (l : List ℕ). FitsPhases then l at.aloft) (sym stays.0)
        (fitting at.waiting at.aloft (wait_same stays.1 (is_not is_stuck is (λ e. cc))) (halts_aloft flies is))
  ]
  halts_by left false flies is waited = elim waited [
    | inl stops ↦ fitting left at.aloft (wait_less left stops (is_not has_ended is (λ e. cc))) (fly_same flies (ap flies_in is))
    | inr stays ↦
        subst (λ (l : List ℕ). FitsPhases then l at.aloft) (sym stays.0)
        (fitting at.waiting at.aloft (wait_same stays.1 (is_not has_ended is (λ e. cc))) (fly_same flies (ap flies_in is)))
  ]

  first_away : was own ≡ no_turn_yet → IsOneOf at.waiting own → ⊥
  first_away first one = let never : no_turn_yet ≡ has_reserved = sym first ∙ fits.waits own one in cc

  fits_by : (a : TurnAct) (later : PlayState) → then own ≡ next_phase (was own) a → PlaysAct a front at turn later → FitsThen later
  fits_by act.Granted later is plays =
      let first = first_phase plays.first in
      subst FitsThen (sym plays.later_is)
      (fitting (at.waiting ++ own ∷ []) at.aloft (waiting_more was then own moves at.waiting fits.waits_once plays.fresh is)
      (fly_same (ap flies_in first) (ap flies_in is)))
  fits_by act.GivenBack later is plays =
      subst FitsThen (sym plays.later_is)
      (fitting plays.left at.aloft (wait_less plays.left plays.waited (is_not has_ended is (λ e. cc)))
      (fly_same (ap flies_in (waited_phase plays.left plays.waited)) (ap flies_in is)))
  fits_by (act.Short kind need free) later is plays =
      let first = first_phase plays.first in
      subst FitsThen (sym plays.later_is)
      (fitting at.waiting at.aloft (wait_same (first_away first) (is_not has_ended is (λ e. cc))) (fly_same (ap flies_in first) (ap flies_in is)))
  fits_by act.Halted later is plays = subst FitsThen (sym plays.later_is) (halts_by plays.left (flies_in (was own)) refl is plays.waited)
  fits_by act.CutAt later is plays =
      subst FitsThen (sym plays.later_is)
      (fitting plays.left (at.aloft ++ record { stamp = own; opened = false } ∷ []) (elim plays.waited [
        | inl stops ↦ wait_less plays.left stops (is_not has_begun is (λ e. cc))
        | inr first ↦
            subst (WaitingMoves was then own moves at.waiting) (sym first.1)
            (wait_same first.2 (is_not has_begun is (λ e. cc)))
      ]) (fly_more plays.fresh is))
  fits_by act.Opened later is plays =
      subst FitsThen (sym plays.later_is)
      (fitting at.waiting (plays.before ++ record { stamp = own; opened = true } ∷ plays.behind)
      (wait_same (no_wait (flight_flies plays.before plays.behind false plays.flies)) (is_not has_opened is (λ e. cc)))
      (fly_marked plays.before plays.behind false true plays.flies.whole (subst (FitsPhase true) (sym is) refl)))
  fits_by act.Durable later is plays =
      subst FitsThen (sym plays.later_is)
      (fitting at.waiting (plays.before ++ plays.behind)
      (wait_same (no_wait (flight_flies plays.before plays.behind true plays.flies)) (is_not is_durable is (λ e. cc)))
      (fly_less plays.before plays.behind true plays.flies.whole (ap flies_in is)))
  fits_by act.Fail later is plays =
      subst FitsThen (sym plays.later_is)
      (fitting at.waiting at.aloft
      (wait_same (no_wait (flight_flies plays.before plays.behind plays.opened plays.flies)) (is_not is_stuck is (λ e. cc)))
      (fly_still plays.before plays.behind plays.opened plays.flies.whole is))

  -- the failure of what is left behind an act
  failed_by : (a : TurnAct) (later : PlayState) → PlaysAct a front at turn later → later.failed ≡ option_or at.failed (failure_by a turn.faults)
  failed_by act.Granted later plays = ap (λ (s : PlayState). s.failed) plays.later_is ∙ sym (or_none at.failed)
  failed_by act.GivenBack later plays = ap (λ (s : PlayState). s.failed) plays.later_is ∙ sym (or_none at.failed)
  failed_by (act.Short kind need free) later plays = ap (λ (s : PlayState). s.failed) plays.later_is ∙ sym (or_none at.failed)
  failed_by act.Halted later plays = ap (λ (s : PlayState). s.failed) plays.later_is ∙ sym (or_none at.failed)
  failed_by act.CutAt later plays = ap (λ (s : PlayState). s.failed) plays.later_is ∙ sym (or_none at.failed)
  failed_by act.Opened later plays = ap (λ (s : PlayState). s.failed) plays.later_is ∙ sym (or_none at.failed)
  failed_by act.Durable later plays = ap (λ (s : PlayState). s.failed) plays.later_is ∙ sym (or_none at.failed)
  failed_by act.Fail later plays =
      ap (λ (s : PlayState). s.failed) plays.later_is ∙ ap (λ (o : Option ℕ). option_or o (Some turn.faults)) (sym plays.calm)

  pub fits_on_turn : at.failed ≡ failed_in front → (later : PlayState) → PlaysAct turn.act front at turn later → PlayFits (front ++ turn ∷ []) later
  fits_on_turn failed later plays = record {
    fits = fits_by turn.act later (phase_on front turn) plays;
    failed = failed_by turn.act later plays ∙ ap (λ (o : Option ℕ). option_or o (failure_by turn.act turn.faults)) failed ∙ sym (failed_more front turn);
  }

pub fits_play : (turns : List Turn) (at : PlayState) → Plays turns at → PlayFits turns at
fits_play _ _ no_play = record { fits = fits_nothing; failed = refl }
fits_play _ _ (one_play turns turn at later plays did) =
    let so = fits_play turns at plays in fits_on_turn turns turn at so.fits so.failed later did
