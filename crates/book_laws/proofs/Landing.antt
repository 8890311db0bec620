-- Turns of a commit aloft, which is opened, becomes durable or fails, at a place where none has failed.
use Rattle.std.proofs.Common.{◌≡◌, ◌≢◌, ◌∷◌, ◌++◌, ◌∙◌, ℕ, Bool, true, false, List, [], map, filter, Some, inl, inr, refl, sym, ap, subst}
use Rattle.std.proofs.lemmas.List.{map-append}
use Rattle.tree_laws.specs.declared.turns.Turn.{Turn}
use Rattle.tree_laws.specs.declared.turns.TurnAct.TheVariants as act
use Rattle.cut_laws.specs.Machine.{flight_of, Accepts}
use Rattle.cut_laws.specs.Rules.{IsOneOf}
use Rattle.cut_laws.specs.declared.event.Event.TheVariants as event
use Rattle.cut_laws.proofs.Basics.{in_left, in_right, in_either}
use Rattle.cut_laws.proofs.Listed.{from_map, to_map}
use Rattle.beside_laws.specs.Steps.{flight_of_flown, IsMidst}
use Rattle.turn_laws.specs.Books.{Grant, Books, is_other_grant, FliesFor, FailsCommit, Leaves}
use Rattle.merge_laws.specs.Phases.{phase_of}
use Rattle.merge_laws.specs.Plays.{Aloft, PlayState, FliesOnce, PlaysOpen, PlaysEnd}
use Rattle.merge_laws.proofs.Lists.{among_at, with_one}
use Rattle.turn_ties.specs.Plans.{image_held, image_once_left, planning_of, made_of}
use Rattle.book_laws.specs.Midway.{Midway, machine_beside, books_beside, PlansTurn}
use Rattle.book_laws.specs.Pairs.{commit_under, PairsBeside, IsOpenBeside}
use Rattle.book_laws.specs.Walk.{Bookkeeping, open_stamps, grants_in}
use Rattle.book_laws.proofs.Played.{PlayFits}
use Rattle.book_laws.proofs.Beside.{UsedBy, place_by, open_once, legal_run, amid}
use Rattle.book_laws.proofs.Calm.{CalmSo, TurnAt, midway_of, StepsTo, waits_not_aloft}
use Rattle.book_laws.proofs.Commits.{stamps_of}
use Rattle.book_laws.proofs.Ended.{Ending, ended, ended_one, raises, ended_beside, ended_stands, ended_imagines}
use Rattle.book_laws.proofs.Grants.{GrantsFit, fits_same, fits_taken}
use Rattle.book_laws.proofs.Machine.{open_taken, end_taken, flight_found, fail_taken}
use Rattle.book_laws.proofs.PlansFit.{made_there, leaves_there, planned_has}

-- a commit that is opened keeps its place
stamps_marked : (before behind : List Aloft) (own : ℕ) (opened mark : Bool)
    → stamps_of (before ++ record { stamp = own; opened = opened } ∷ behind) ≡ stamps_of (before ++ record { stamp = own; opened = mark } ∷ behind)
stamps_marked before behind own opened mark =
    map-append (λ (flight : Aloft). flight.stamp) before (record { stamp = own; opened = opened } ∷ behind)
    ∙ sym (map-append (λ (flight : Aloft). flight.stamp) before (record { stamp = own; opened = mark } ∷ behind))

module _ (kept : Bookkeeping) (place : TurnAt kept) where
  abbrev front : List Turn
  front = place.front

  abbrev turn : Turn
  turn = place.turn

  abbrev at : PlayState
  at = place.at

  abbrev so : PlayFits front at
  so = place.so

  abbrev calm : CalmSo kept front at
  calm = place.calm

  abbrev own : ℕ
  own = turn.stamp.0

  abbrev opens : List ℕ
  opens = open_stamps at

  abbrev mid : Midway
  mid = midway_of kept front at calm

  abbrev grants_now : List Grant
  grants_now = grants_in kept.pairs front

  abbrev grants_then : List Grant
  grants_then = grants_in kept.pairs (front ++ turn ∷ [])

  midst : IsMidst (place_by kept.pairs calm.volume at calm.used)
  midst = amid kept.pairs calm.volume at calm.used (open_once (λ stamp. phase_of stamp front) at so.fits) calm.imagined.beside calm.used_by

  -- its commit is aloft
  module _ (before behind : List Aloft) (opened : Bool) (flies : FliesOnce at.aloft before behind (record { stamp = own; opened = opened }))
      (number_is : turn.commit ≡ (commit_under kept.pairs own).number) where
    own_flies : IsOneOf (stamps_of at.aloft) own
    own_flies =
        to_map (λ (flight : Aloft). flight.stamp) at.aloft (record { stamp = own; opened = opened })
        (subst (λ (l : List Aloft). IsOneOf l (record { stamp = own; opened = opened })) (sym flies.whole)
        (among_at before (record { stamp = own; opened = opened }) behind))

    own_open : IsOneOf opens own
    own_open = in_right at.waiting (stamps_of at.aloft) own own_flies

    its : IsOpenBeside calm.volume (map (commit_under kept.pairs) at.done) (kept.pairs own)
    its = calm.imagined.beside.opens own own_open

    other_flies : (other : Aloft) → IsOneOf (before ++ behind) other → IsOneOf (stamps_of at.aloft) other.stamp
    other_flies other one =
        to_map (λ (flight : Aloft). flight.stamp) at.aloft other
        (subst (λ (l : List Aloft). IsOneOf l other) (sym flies.whole) (with_one before (record { stamp = own; opened = opened }) behind other one))

    pub flies_there : FliesFor (machine_beside mid) turn
    flies_there = record {
      flight = flight_of_flown (record { commit = commit_under kept.pairs own; opened = opened });
      flies =
          ap (flight_of (machine_beside mid)) number_is
          ∙ flight_found kept.pairs calm.volume at calm.used own midst before behind opened flies (λ other one differ.
          let from = from_map (λ (flight : Aloft). flight.stamp) before other one in
          (calm.imagined.beside.apart own other own_open
          (in_right at.waiting (stamps_of at.aloft) other
          (subst (IsOneOf (stamps_of at.aloft)) from.2 (other_flies from.0 (in_left before behind from.0 from.1))))
          (λ e. differ (sym e))).numbers);
      own = its.flush ∙ place.flush_is;
    }

    -- it fails
    pub failed_books : Books
    failed_books =
        record (books_beside mid) { machine = record (machine_beside mid) { failed = Some turn.commit }; failed = Some turn.faults }

    pub fails_now : FailsCommit (books_beside mid) turn failed_books
    unfolding failed_books
    fails_now = record {
      flies = flies_there;
      machine = record (machine_beside mid) { failed = Some turn.commit };
      taken = fail_taken (machine_beside mid) turn.commit flies_there.flight refl refl flies_there.flies;
      later_is = refl;
    }

    pub failed_waiting : failed_books.waiting ≡ mid.waiting
    unfolding failed_books
    failed_waiting = refl

    pub failed_failed : failed_books.failed ≡ Some turn.faults
    unfolding failed_books
    failed_failed = refl

  -- it is opened
  module _ (before behind : List Aloft) (flies : FliesOnce at.aloft before behind (record { stamp = own; opened = false }))
      (number_is : turn.commit ≡ (commit_under kept.pairs own).number) (grants_are : grants_then ≡ grants_now) where
    abbrev open_now : PlayState
    open_now = record at { aloft = before ++ record { stamp = own; opened = true } ∷ behind }

    same_stamps : stamps_of at.aloft ≡ stamps_of open_now.aloft
    same_stamps = ap stamps_of flies.whole ∙ stamps_marked before behind own false true

    abbrev opened_next : CalmSo kept (front ++ turn ∷ []) open_now
    opened_next = record {
      volume = calm.volume;
      imagined = record {
        stands = calm.imagined.stands;
        imagines = calm.imagined.imagines;
        beside = subst (λ (l : List ℕ). PairsBeside kept.pairs at.done (at.waiting ++ l) calm.volume) same_stamps calm.imagined.beside;
      };
      used = calm.used;
      used_by = λ number one.
          let was = calm.used_by number one in (was.0, subst (λ (l : List ℕ). IsOneOf (at.done ++ l) was.0) same_stamps was.1, was.2);
      grants =
          subst (GrantsFit kept.pairs (front ++ turn ∷ []) (open_stamps open_now)) (sym grants_are)
          (fits_same kept.pairs front turn opens grants_now calm.grants (open_stamps open_now)
          (λ stamp one. subst (λ (l : List ℕ). IsOneOf (at.waiting ++ l) stamp) (sym same_stamps) one));
    }

    opens_now : StepsTo kept front turn at calm act.Opened open_now
    opens_now = record {
      next = opened_next;
      does = record {
        flies = flies_there before behind false flies number_is;
        machine = machine_beside (midway_of kept (front ++ turn ∷ []) open_now opened_next);
        taken =
            subst
            (λ (n : ℕ). Accepts (machine_beside mid) (event.Opened n) (machine_beside (midway_of kept (front ++ turn ∷ []) open_now opened_next)))
            (sym number_is) (open_taken kept.pairs calm.volume at calm.used own midst before behind flies.whole);
        later_is = λ i. record (books_beside (midway_of kept (front ++ turn ∷ []) open_now opened_next)) { grants = grants_are i };
      };
    }

  pub opens_step : (later : PlayState) → PlaysOpen at own later → turn.commit ≡ (commit_under kept.pairs own).number → grants_then ≡ grants_now
      → StepsTo kept front turn at calm act.Opened later
  opens_step later plays number_is grants_are =
      subst (StepsTo kept front turn at calm act.Opened) (sym plays.later_is)
      (opens_now plays.before plays.behind plays.flies number_is grants_are)

  -- it becomes durable
  module _ (before behind : List Aloft)
      (flies : FliesOnce at.aloft before behind (record { stamp = own; opened = true }))
      (number_is : turn.commit ≡ (commit_under kept.pairs own).number) (grants_are : grants_then ≡ filter (is_other_grant own) grants_now) where
    abbrev landed : PlayState
    landed = record at { done = at.done ++ own ∷ []; aloft = before ++ behind }

    abbrev here : IsOneOf opens own
    here = own_open before behind true flies number_is

    abbrev ending : Ending kept.pairs
    ending = record {
      volume = calm.volume;
      done = at.done;
      opens = opens;
      own = own;
      among = here;
      stands = calm.imagined.stands;
      beside = calm.imagined.beside;
      brings = (calm.imagined.beside.opens own here).brings;
    }

    landed_within : (stamp : ℕ) → IsOneOf (open_stamps landed) stamp → IsOneOf opens stamp × (stamp ≢ own)
    landed_within stamp one = elim (in_either at.waiting (stamps_of (before ++ behind)) stamp one) [
      | inl waits ↦ (
        in_left at.waiting (stamps_of at.aloft) stamp waits,
        λ e. waits_not_aloft front at so own (subst (IsOneOf at.waiting) e waits) (own_flies before behind true flies number_is),
      )
      | inr others ↦
          let from = from_map (λ (flight : Aloft). flight.stamp) (before ++ behind) stamp others in (
            in_right at.waiting (stamps_of at.aloft) stamp
                (subst (IsOneOf (stamps_of at.aloft)) from.2 (other_flies before behind true flies number_is from.0 from.1)),
            λ e. flies.once from.0 from.1 (from.2 ∙ e),
          )
    ]

    landed_used : UsedBy kept.pairs landed calm.used
    landed_used number one =
        let was = calm.used_by number one in (
          was.0,
          elim (in_either at.done (stamps_of at.aloft) was.0 was.1) [
            | inl done ↦ in_left landed.done (stamps_of landed.aloft) was.0 (in_left at.done (own ∷ []) was.0 done)
            | inr flew ↦
                elim (in_either (stamps_of before) (own ∷ stamps_of behind) was.0
                (subst (λ (l : List ℕ). IsOneOf l was.0)
                (ap stamps_of flies.whole ∙ map-append (λ (flight : Aloft). flight.stamp) before (record { stamp = own; opened = true } ∷ behind)) flew)) [
                  | inl first ↦ still was.0 (in_left (stamps_of before) (stamps_of behind) was.0 first)
                  | inr rest ↦ elim rest [
                    | inl same ↦
                        in_left landed.done (stamps_of landed.aloft) was.0 (in_right at.done (own ∷ []) was.0 (inl same))
                    | inr last ↦ still was.0 (in_right (stamps_of before) (stamps_of behind) was.0 last)
                  ]
                ]
          ],
          was.2,
        )
      where
        still : (stamp : ℕ) → IsOneOf (stamps_of before ++ stamps_of behind) stamp → IsOneOf (landed.done ++ stamps_of landed.aloft) stamp
        still stamp there =
            in_right landed.done (stamps_of landed.aloft) stamp
            (subst (λ (l : List ℕ). IsOneOf l stamp) (sym (map-append (λ (flight : Aloft). flight.stamp) before behind)) there)

    abbrev landed_next : CalmSo kept (front ++ turn ∷ []) landed
    landed_next = record {
      volume = ended kept.pairs ending;
      imagined = record {
        stands = ended_stands kept.pairs ending;
        imagines = ended_imagines kept.pairs ending kept.start calm.imagined.imagines;
        beside =
            ended_beside kept.pairs ending (open_stamps landed) landed_within;
      };
      used = calm.used;
      used_by = landed_used;
      grants =
          subst (GrantsFit kept.pairs (front ++ turn ∷ []) (open_stamps landed)) (sym grants_are)
          (fits_taken kept.pairs front turn opens grants_now calm.grants (open_stamps landed) landed_within);
    }

    abbrev brought : Rattle.flush_laws.specs.Volume.OneFsync
    brought = ended_one kept.pairs ending

    plans_there : PlansTurn calm.volume (planning_of brought) turn
    plans_there =
        let brings = (calm.imagined.beside.opens own here).brings in
        planned_has mid brought turn calm.imagined.stands brings.planned brings.touched place.flush_is

    ends_now : StepsTo kept front turn at calm act.Durable landed
    ends_now =
        let brings = (calm.imagined.beside.opens own here).brings in
        record {
          next = landed_next;
          does = record {
            flies = flies_there before behind true flies number_is;
            machine = machine_beside (midway_of kept (front ++ turn ∷ []) landed landed_next);
            taken =
                subst
                (λ (n : ℕ). Accepts (machine_beside mid) (event.Durable n) (machine_beside (midway_of kept (front ++ turn ∷ []) landed landed_next)))
                (sym number_is)
                (end_taken kept.pairs calm.volume at calm.used own midst before behind landed_next.volume.cut landed_next.volume.inodes
                (legal_run calm.volume (map (commit_under kept.pairs) at.done) calm.imagined.stands)
                (raises kept.pairs ending) flies.whole);
            made = made_of (planning_of brought);
            is_made = made_there mid (planning_of brought) turn plans_there;
            image = image_once_left calm.volume brought;
            leaves =
                subst
                (λ (l : List ℕ). Leaves (machine_beside mid) (made_of (planning_of brought)) l (image_held calm.volume) (image_once_left calm.volume brought))
                (sym (calm.grants.own own here)) (leaves_there mid brought calm.imagined.stands brings.planned brings.touched);
            later_is = λ i. record (books_beside (midway_of kept (front ++ turn ∷ []) landed landed_next)) { grants = grants_are i };
          };
        }

  pub ends_step : (later : PlayState) → PlaysEnd at own later
      → turn.commit ≡ (commit_under kept.pairs own).number → grants_then ≡ filter (is_other_grant own) grants_now
      → StepsTo kept front turn at calm act.Durable later
  ends_step later plays number_is grants_are =
      subst (StepsTo kept front turn at calm act.Durable) (sym plays.later_is)
      (ends_now plays.before plays.behind plays.flies number_is grants_are)
