-- Each turn that may come where it stands is a step of a play.
use Rattle.std.specs.Option.{option_or}
use Rattle.std.proofs.Common.{◌≡◌, ◌≢◌, ◌∷◌, ◌++◌, ◌⊎◌, ◌∙◌, ℕ, Bool, true, false, List, [], Option, Some, None, inl, inr, refl, sym, ap, subst}
use Rattle.sfs_base.specs.declared.numbers.SpaceKind.{SpaceKind}
use Rattle.sfs_base.proofs.BasicOptions.{or_none}
use Rattle.tree_laws.specs.declared.turns.Turn.{Turn}
use Rattle.tree_laws.specs.declared.turns.TurnAct.{TurnAct}
use Rattle.tree_laws.specs.declared.turns.TurnAct.TheVariants as act
use Rattle.cut_laws.specs.Rules.{IsOneOf}
use Rattle.turn_laws.specs.Books.{CountsFaults}
use Rattle.merge_laws.specs.Phases.{Phase, no_turn_yet, has_reserved, has_begun, has_opened, is_durable, has_ended, is_stuck, flies_in, after_halt, next_phase, may_follow, phase_of}
use Rattle.merge_laws.specs.Pens.{failure_by, failed_in}
use Rattle.merge_laws.specs.Plays.{Aloft, PlayState, FliesOnce, StopsWaiting, PlaysAct}
use Rattle.merge_laws.proofs.Lists.{stands_at}
use Rattle.merge_laws.proofs.Phases.{first_turn, phase_on, phase_stays}
use Rattle.merge_laws.proofs.Follows.{granted_first, short_first, back_reserved, cut_begins, opens_begun, ends_opened, fails_aloft, halts_anywhere, aloft_not_reserved, not_reserved, calm_by, failed_by}
use Rattle.merge_laws.proofs.Playing.{KeysDiffer, differ_out, FitsPhase, FitsPhases, MovesOn, WaitingMoves, AloftMoves, fits_on, waiting_same, waiting_more, waiting_less, aloft_same, aloft_more, aloft_less, aloft_marked}

module _ (before most : ℕ) (front : List Turn) (turn : Turn) (at : PlayState)
    (fits : FitsPhases (λ stamp. phase_of stamp front) at.waiting at.aloft) (failed : at.failed ≡ failed_in front) where
  -- What an act leaves.
  pub record GoesOnBy (a : TurnAct) : Type 0 where
    pub later : PlayState
    pub plays : PlaysAct a front at turn later
    pub fits_later : FitsPhases (λ other. phase_of other (front ++ turn ∷ [])) later.waiting later.aloft
    pub failed_later : later.failed ≡ option_or (failed_in front) (failure_by a turn.faults)

  moves : MovesOn (λ other. phase_of other front) (λ other. phase_of other (front ++ turn ∷ [])) turn.stamp.0
  moves = record { others = λ other apart. phase_stays front turn other apart }

  no_wait : (phase_of turn.stamp.0 front ≡ has_reserved → ⊥) → IsOneOf at.waiting turn.stamp.0 → ⊥
  no_wait never one = never (fits.waits turn.stamp.0 one)

  no_flight : (was : Phase) → phase_of turn.stamp.0 front ≡ was → ((opened : Bool) → FitsPhase opened was → ⊥) → (flight : Aloft)
      → IsOneOf at.aloft flight → flight.stamp ≢ turn.stamp.0
  no_flight was e never flight one same =
      never flight.opened (subst (FitsPhase flight.opened) (ap (λ (n : ℕ). phase_of n front) same ∙ e) (fits.flies flight one))

  -- The fsync waits, between these.
  record WaitsHere : Type 0 where
    before_it : List ℕ
    behind_it : List ℕ
    whole : at.waiting ≡ before_it ++ turn.stamp.0 ∷ behind_it

  waits_here : phase_of turn.stamp.0 front ≡ has_reserved → WaitsHere
  waits_here e =
      let there = stands_at at.waiting turn.stamp.0 (fits.reserved turn.stamp.0 e) in
      record { before_it = there.front; behind_it = there.back; whole = there.whole }

  waiting_differs : (w : WaitsHere) → KeysDiffer (λ other. other) (w.before_it ++ turn.stamp.0 ∷ w.behind_it)
  waiting_differs w = subst (KeysDiffer (λ (other : ℕ). other)) w.whole fits.waits_once

  stops_waiting : (w : WaitsHere) → StopsWaiting at turn.stamp.0 (w.before_it ++ w.behind_it)
  stops_waiting w = record {
    before = w.before_it;
    behind = w.behind_it;
    waits = record {
      whole = w.whole;
      once = λ one. (differ_out (λ (other : ℕ). other) w.before_it turn.stamp.0 w.behind_it (waiting_differs w)).1 turn.stamp.0 one refl;
    };
    left_is = refl;
  }

  leaves_waiting : (w : WaitsHere) → (phase_of turn.stamp.0 (front ++ turn ∷ []) ≡ has_reserved → ⊥)
      → WaitingMoves (λ other. phase_of other front) (λ other. phase_of other (front ++ turn ∷ [])) turn.stamp.0 moves at.waiting (w.before_it ++ w.behind_it)
  leaves_waiting w never =
      subst
      (λ (l : List ℕ). WaitingMoves (λ other. phase_of other front) (λ other. phase_of other (front ++ turn ∷ [])) turn.stamp.0 moves l
      (w.before_it ++ w.behind_it))
      (sym w.whole) (waiting_less _ _ turn.stamp.0 moves w.before_it w.behind_it (waiting_differs w) never)

  -- Its commit is aloft, between these.
  record FliesHere (was : Phase) : Type 0 where
    opened : Bool
    fits_was : FitsPhase opened was
    before_it : List Aloft
    behind_it : List Aloft
    whole : at.aloft ≡ before_it ++ record { stamp = turn.stamp.0; opened = opened } ∷ behind_it

  same_flight : (flight : Aloft) (n : ℕ) → flight.stamp ≡ n → flight ≡ record { stamp = n; opened = flight.opened }
  same_flight flight n e = λ i. record { stamp = e i; opened = flight.opened }

  flies_here : (was : Phase) → phase_of turn.stamp.0 front ≡ was → flies_in was ≡ true → FliesHere was
  flies_here was e flies =
      let its = fits.flying turn.stamp.0 (ap flies_in e ∙ flies) in
      let there = stands_at at.aloft its.0 its.1 in
      record {
        opened = its.0.opened;
        fits_was = subst (FitsPhase its.0.opened) (ap (λ (n : ℕ). phase_of n front) its.2 ∙ e) (fits.flies its.0 its.1);
        before_it = there.front;
        behind_it = there.back;
        whole = there.whole ∙ ap (λ (f : Aloft). there.front ++ f ∷ there.back) (same_flight its.0 turn.stamp.0 its.2);
      }

  Moves : List ℕ → Type 0
  Moves new = WaitingMoves (λ other. phase_of other front) (λ other. phase_of other (front ++ turn ∷ [])) turn.stamp.0 moves at.waiting new

  Flies : List Aloft → Type 0
  Flies new = AloftMoves (λ other. phase_of other front) (λ other. phase_of other (front ++ turn ∷ [])) turn.stamp.0 moves at.aloft new

  wait_same : (phase_of turn.stamp.0 front ≡ has_reserved → ⊥) → (phase_of turn.stamp.0 (front ++ turn ∷ []) ≡ has_reserved → ⊥) → Moves at.waiting
  unfolding Moves
  wait_same was never = waiting_same _ _ turn.stamp.0 moves at.waiting fits.waits_once (no_wait was) never

  wait_less : (w : WaitsHere) → (phase_of turn.stamp.0 (front ++ turn ∷ []) ≡ has_reserved → ⊥) → Moves (w.before_it ++ w.behind_it)
  unfolding Moves
  wait_less w never = leaves_waiting w never

  -- no commit is aloft of an fsync that has none begun
  no_begun : (was : Phase) → phase_of turn.stamp.0 front ≡ was → (was ≡ no_turn_yet) ⊎ (was ≡ has_reserved) → (flight : Aloft)
      → IsOneOf at.aloft flight → flight.stamp ≢ turn.stamp.0
  no_begun was e which = no_flight was e (λ opened. elim which [
    | inl first ↦ subst (FitsPhase opened) first
    | inr reserved ↦ subst (FitsPhase opened) reserved
  ])

  fly_same : ((flight : Aloft) → IsOneOf at.aloft flight → flight.stamp ≢ turn.stamp.0) → flies_in (phase_of turn.stamp.0 (front ++ turn ∷ [])) ≡ false
      → Flies at.aloft
  unfolding Flies
  fly_same away never = aloft_same _ _ turn.stamp.0 moves at.aloft fits.flies_once away never

  fly_more : ((flight : Aloft) → IsOneOf at.aloft flight → flight.stamp ≢ turn.stamp.0) → phase_of turn.stamp.0 (front ++ turn ∷ []) ≡ has_begun
      → Flies (at.aloft ++ record { stamp = turn.stamp.0; opened = false } ∷ [])
  unfolding Flies
  fly_more away is = aloft_more _ _ turn.stamp.0 moves at.aloft fits.flies_once away is

  flight_differs : (was : Phase) (f : FliesHere was)
      → KeysDiffer (λ flight. flight.stamp) (f.before_it ++ record { stamp = turn.stamp.0; opened = f.opened } ∷ f.behind_it)
  flight_differs was f = subst (KeysDiffer (λ (flight : Aloft). flight.stamp)) f.whole fits.flies_once

  flies_once_here : (was : Phase) (f : FliesHere was)
      → FliesOnce at.aloft f.before_it f.behind_it (record { stamp = turn.stamp.0; opened = f.opened })
  flies_once_here was f = record {
    whole = f.whole;
    once =
        (differ_out (λ (flight : Aloft). flight.stamp) f.before_it (record { stamp = turn.stamp.0; opened = f.opened }) f.behind_it
        (flight_differs was f)).1;
  }

  fly_less : (was : Phase) (f : FliesHere was) → flies_in (phase_of turn.stamp.0 (front ++ turn ∷ [])) ≡ false → Flies (f.before_it ++ f.behind_it)
  unfolding Flies
  fly_less was f never =
      subst
      (λ (l : List Aloft). AloftMoves (λ other. phase_of other front) (λ other. phase_of other (front ++ turn ∷ [])) turn.stamp.0 moves l
      (f.before_it ++ f.behind_it))
      (sym f.whole) (aloft_less _ _ turn.stamp.0 moves f.before_it f.opened f.behind_it (flight_differs was f) never)

  fly_marked : (was : Phase) (f : FliesHere was) (mark : Bool) → FitsPhase mark (phase_of turn.stamp.0 (front ++ turn ∷ []))
      → Flies (f.before_it ++ record { stamp = turn.stamp.0; opened = mark } ∷ f.behind_it)
  unfolding Flies
  fly_marked was f mark is =
      subst
      (λ (l : List Aloft). AloftMoves (λ other. phase_of other front) (λ other. phase_of other (front ++ turn ∷ [])) turn.stamp.0 moves l
      (f.before_it ++ record { stamp = turn.stamp.0; opened = mark } ∷ f.behind_it))
      (sym f.whole) (aloft_marked _ _ turn.stamp.0 moves f.before_it f.opened mark f.behind_it (flight_differs was f) is)

  fly_stuck : (was : Phase) (f : FliesHere was) → phase_of turn.stamp.0 (front ++ turn ∷ []) ≡ is_stuck → Flies at.aloft
  unfolding Flies
  fly_stuck was f is = subst Flies (sym f.whole) (fly_marked was f f.opened (subst (FitsPhase f.opened) (sym is) tt))

  fitting : (waiting : List ℕ) (aloft : List Aloft) → Moves waiting → Flies aloft → FitsPhases (λ other. phase_of other (front ++ turn ∷ [])) waiting aloft
  unfolding Moves Flies
  fitting waiting aloft wait fly = fits_on _ _ turn.stamp.0 moves at.waiting waiting at.aloft aloft fits wait fly

  -- where the count of the failure stays
  failed_stays : at.failed ≡ option_or (failed_in front) None
  failed_stays = failed ∙ sym (or_none (failed_in front))

  grants : phase_of turn.stamp.0 front ≡ no_turn_yet → phase_of turn.stamp.0 (front ++ turn ∷ []) ≡ has_reserved → at.failed ≡ None
      → GoesOnBy act.Granted
  unfolding Moves
  grants was is calm = record {
    later = record at { waiting = at.waiting ++ turn.stamp.0 ∷ [] };
    plays = record { calm = calm; first = first_turn turn.stamp.0 front was; fresh = no_wait (not_reserved _ no_turn_yet was (λ e. cc)); later_is = refl };
    fits_later = fitting (at.waiting ++ turn.stamp.0 ∷ []) at.aloft
        (waiting_more _ _ turn.stamp.0 moves at.waiting fits.waits_once (no_wait (not_reserved _ no_turn_yet was (λ e. cc))) is)
        (fly_same (no_begun no_turn_yet was (inl refl)) (ap flies_in is));
    failed_later = failed_stays;
  }

  -- the fsync had no turn before, and is at its end
  fits_at_once : phase_of turn.stamp.0 front ≡ no_turn_yet → phase_of turn.stamp.0 (front ++ turn ∷ []) ≡ has_ended
      → FitsPhases (λ other. phase_of other (front ++ turn ∷ [])) at.waiting at.aloft
  fits_at_once was is =
      fitting at.waiting at.aloft
      (wait_same (not_reserved _ no_turn_yet was (λ e. cc)) (not_reserved _ has_ended is (λ e. cc)))
      (fly_same (no_begun no_turn_yet was (inl refl)) (ap flies_in is))

  -- it had reserved, and is at its end
  fits_back : (w : WaitsHere) → phase_of turn.stamp.0 front ≡ has_reserved → phase_of turn.stamp.0 (front ++ turn ∷ []) ≡ has_ended
      → FitsPhases (λ other. phase_of other (front ++ turn ∷ [])) (w.before_it ++ w.behind_it) at.aloft
  fits_back w was is =
      fitting (w.before_it ++ w.behind_it) at.aloft (wait_less w (not_reserved _ has_ended is (λ e. cc)))
      (fly_same (no_begun has_reserved was (inr refl)) (ap flies_in is))

  -- its commit was aloft, and is stuck
  fits_stuck : (was : Phase) → phase_of turn.stamp.0 front ≡ was → flies_in was ≡ true → phase_of turn.stamp.0 (front ++ turn ∷ []) ≡ is_stuck
      → FitsPhases (λ other. phase_of other (front ++ turn ∷ [])) at.waiting at.aloft
  fits_stuck was e flies is =
      fitting at.waiting at.aloft
      (wait_same (not_reserved _ was e (aloft_not_reserved was flies)) (not_reserved _ is_stuck is (λ e. cc)))
      (fly_stuck was (flies_here was e flies) is)

  lacks : (kind : SpaceKind) (need free : ℕ) → phase_of turn.stamp.0 front ≡ no_turn_yet → phase_of turn.stamp.0 (front ++ turn ∷ []) ≡ has_ended
      → at.failed ≡ None → GoesOnBy (act.Short kind need free)
  lacks kind need free was is calm = record {
    later = at;
    plays = record { calm = calm; first = first_turn turn.stamp.0 front was; later_is = refl };
    fits_later = fits_at_once was is;
    failed_later = failed_stays;
  }

  gives_back : phase_of turn.stamp.0 front ≡ has_reserved → phase_of turn.stamp.0 (front ++ turn ∷ []) ≡ has_ended → GoesOnBy act.GivenBack
  gives_back was is =
      let w = waits_here was in
      record {
        later = record at { waiting = w.before_it ++ w.behind_it };
        plays = record { left = w.before_it ++ w.behind_it; waited = stops_waiting w; later_is = refl };
        fits_later = fits_back w was is;
        failed_later = failed_stays;
      }

  begins_at_once : phase_of turn.stamp.0 front ≡ no_turn_yet → phase_of turn.stamp.0 (front ++ turn ∷ []) ≡ has_begun → at.failed ≡ None
      → GoesOnBy act.CutAt
  begins_at_once was is calm = record {
    later = record at { aloft = at.aloft ++ record { stamp = turn.stamp.0; opened = false } ∷ [] };
    plays = record {
      calm = calm;
      left = at.waiting;
      waited = inr (first_turn turn.stamp.0 front was, refl, no_wait (not_reserved _ no_turn_yet was (λ e. cc)));
      fresh = no_begun no_turn_yet was (inl refl);
      later_is = refl;
    };
    fits_later = fitting at.waiting (at.aloft ++ record { stamp = turn.stamp.0; opened = false } ∷ [])
        (wait_same (not_reserved _ no_turn_yet was (λ e. cc)) (not_reserved _ has_begun is (λ e. cc)))
        (fly_more (no_begun no_turn_yet was (inl refl)) is);
    failed_later = failed_stays;
  }

  begins : phase_of turn.stamp.0 front ≡ has_reserved → phase_of turn.stamp.0 (front ++ turn ∷ []) ≡ has_begun → at.failed ≡ None
      → GoesOnBy act.CutAt
  begins was is calm =
      let w = waits_here was in
      record {
        later = record at { waiting = w.before_it ++ w.behind_it; aloft = at.aloft ++ record { stamp = turn.stamp.0; opened = false } ∷ [] };
        plays = record {
          calm = calm;
          left = w.before_it ++ w.behind_it;
          waited = inl (stops_waiting w);
          fresh = no_begun has_reserved was (inr refl);
          later_is = refl;
        };
        fits_later = fitting (w.before_it ++ w.behind_it) (at.aloft ++ record { stamp = turn.stamp.0; opened = false } ∷ [])
            (wait_less w (not_reserved _ has_begun is (λ e. cc)))
            (fly_more (no_begun has_reserved was (inr refl)) is);
        failed_later = failed_stays;
      }

  opens : phase_of turn.stamp.0 front ≡ has_begun → phase_of turn.stamp.0 (front ++ turn ∷ []) ≡ has_opened → at.failed ≡ None → GoesOnBy act.Opened
  opens was is calm =
      let f = flies_here has_begun was refl in
      record {
        later = record at { aloft = f.before_it ++ record { stamp = turn.stamp.0; opened = true } ∷ f.behind_it };
        plays = record {
          calm = calm;
          before = f.before_it;
          behind = f.behind_it;
          flies = subst (λ (b : Bool). FliesOnce at.aloft f.before_it f.behind_it (record { stamp = turn.stamp.0; opened = b })) f.fits_was
              (flies_once_here has_begun f);
          later_is = refl;
        };
        fits_later = fitting at.waiting (f.before_it ++ record { stamp = turn.stamp.0; opened = true } ∷ f.behind_it)
            (wait_same (not_reserved _ has_begun was (λ e. cc)) (not_reserved _ has_opened is (λ e. cc)))
            (fly_marked has_begun f true (subst (FitsPhase true) (sym is) refl));
        failed_later = failed_stays;
      }

  ends : phase_of turn.stamp.0 front ≡ has_opened → phase_of turn.stamp.0 (front ++ turn ∷ []) ≡ is_durable → at.failed ≡ None → GoesOnBy act.Durable
  ends was is calm =
      let f = flies_here has_opened was refl in
      record {
        later = record at { done = at.done ++ turn.stamp.0 ∷ []; aloft = f.before_it ++ f.behind_it };
        plays = record {
          calm = calm;
          before = f.before_it;
          behind = f.behind_it;
          flies = subst (λ (b : Bool). FliesOnce at.aloft f.before_it f.behind_it (record { stamp = turn.stamp.0; opened = b })) f.fits_was
              (flies_once_here has_opened f);
          later_is = refl;
        };
        fits_later = fitting at.waiting (f.before_it ++ f.behind_it)
            (wait_same (not_reserved _ has_opened was (λ e. cc)) (not_reserved _ is_durable is (λ e. cc)))
            (fly_less has_opened f (ap flies_in is));
        failed_later = failed_stays;
      }

  fails : (was : Phase) → phase_of turn.stamp.0 front ≡ was → flies_in was ≡ true → phase_of turn.stamp.0 (front ++ turn ∷ []) ≡ is_stuck
      → at.failed ≡ None → GoesOnBy act.Fail
  fails was e flies is calm =
      let f = flies_here was e flies in
      record {
        later = record at { failed = Some turn.faults };
        plays = record {
          calm = calm;
          opened = f.opened;
          before = f.before_it;
          behind = f.behind_it;
          flies = flies_once_here was f;
          later_is = refl;
        };
        fits_later = fits_stuck was e flies is;
        failed_later = ap (λ (o : Option ℕ). option_or o (Some turn.faults)) (sym calm ∙ failed);
      }

  halts_first : (faults : ℕ) → phase_of turn.stamp.0 front ≡ no_turn_yet → phase_of turn.stamp.0 (front ++ turn ∷ []) ≡ has_ended
      → at.failed ≡ Some faults → GoesOnBy act.Halted
  halts_first faults was is stopped = record {
    later = at;
    plays = record {
      faults = faults;
      failed = stopped;
      left = at.waiting;
      waited = inr (refl, no_wait (not_reserved _ no_turn_yet was (λ e. cc)));
      later_is = refl;
    };
    fits_later = fits_at_once was is;
    failed_later = failed_stays;
  }

  halts_waiting : (faults : ℕ) → phase_of turn.stamp.0 front ≡ has_reserved → phase_of turn.stamp.0 (front ++ turn ∷ []) ≡ has_ended
      → at.failed ≡ Some faults → GoesOnBy act.Halted
  halts_waiting faults was is stopped =
      let w = waits_here was in
      record {
        later = record at { waiting = w.before_it ++ w.behind_it };
        plays = record { faults = faults; failed = stopped; left = w.before_it ++ w.behind_it; waited = inl (stops_waiting w); later_is = refl };
        fits_later = fits_back w was is;
        failed_later = failed_stays;
      }

  halts_aloft : (faults : ℕ) (was : Phase) → phase_of turn.stamp.0 front ≡ was → flies_in was ≡ true
      → phase_of turn.stamp.0 (front ++ turn ∷ []) ≡ is_stuck → at.failed ≡ Some faults → GoesOnBy act.Halted
  halts_aloft faults was e flies is stopped = record {
    later = at;
    plays = record {
      faults = faults;
      failed = stopped;
      left = at.waiting;
      waited = inr (refl, no_wait (not_reserved _ was e (aloft_not_reserved was flies)));
      later_is = refl;
    };
    fits_later = fits_stuck was e flies is;
    failed_later = failed_stays;
  }

  -- the turn goes on, by its act
  goes_by : (a : TurnAct) → phase_of turn.stamp.0 (front ++ turn ∷ []) ≡ next_phase (phase_of turn.stamp.0 front) a
      → may_follow (phase_of turn.stamp.0 front) a ≡ true → CountsFaults before most at.failed a turn.faults → GoesOnBy a
  goes_by act.Granted is may counts = grants (granted_first _ may) is (calm_by before most at.failed act.Granted turn.faults refl counts)
  goes_by act.GivenBack is may counts = gives_back (back_reserved _ may) is
  goes_by (act.Short kind need free) is may counts =
      lacks kind need free (short_first _ kind need free may) is (calm_by before most at.failed (act.Short kind need free) turn.faults refl counts)
  goes_by act.Halted is may counts =
      let stopped = failed_by before most at.failed turn.faults counts in
      elim (halts_anywhere (phase_of turn.stamp.0 front) may) [
        | inl first ↦ halts_first stopped.0 first (is ∙ ap (λ (p : Phase). after_halt (flies_in p)) first) stopped.1
        | inr more ↦ elim more [
          | inl reserved ↦ halts_waiting stopped.0 reserved (is ∙ ap (λ (p : Phase). after_halt (flies_in p)) reserved) stopped.1
          | inr flies ↦ halts_aloft stopped.0 (phase_of turn.stamp.0 front) refl flies (is ∙ ap after_halt flies) stopped.1
        ]
      ]
  goes_by act.CutAt is may counts =
      let calm = calm_by before most at.failed act.CutAt turn.faults refl counts in
      elim (cut_begins (phase_of turn.stamp.0 front) may) [ inl first ↦ begins_at_once first is calm | inr reserved ↦ begins reserved is calm ]
  goes_by act.Opened is may counts = opens (opens_begun _ may) is (calm_by before most at.failed act.Opened turn.faults refl counts)
  goes_by act.Durable is may counts = ends (ends_opened _ may) is (calm_by before most at.failed act.Durable turn.faults refl counts)
  goes_by act.Fail is may counts =
      fails (phase_of turn.stamp.0 front) refl (fails_aloft _ may) is (calm_by before most at.failed act.Fail turn.faults refl counts)

  pub goes_by_turn : may_follow (phase_of turn.stamp.0 front) turn.act ≡ true → CountsFaults before most (failed_in front) turn.act turn.faults
      → GoesOnBy turn.act
  goes_by_turn may counts =
      goes_by turn.act (phase_on front turn) may (subst (λ (o : Option ℕ). CountsFaults before most o turn.act turn.faults) (sym failed) counts)
