-- Turns of a commit that begins, is opened, ends or fails, at a place where none has failed.
use Rattle.std.proofs.Common.{◌≡◌, ◌≢◌, ◌⊎◌, ◌∷◌, ◌++◌, ◌∙◌, ℕ, false, List, [], map, inl, inr, refl, sym, ap, subst}
use Rattle.std.proofs.lemmas.List.{map-append, nil_from_length}
use Rattle.tree_laws.specs.declared.turns.Turn.{Turn}
use Rattle.tree_laws.specs.declared.turns.TurnAct.TheVariants as act
use Rattle.cut_laws.specs.Machine.{Accepts}
use Rattle.cut_laws.specs.Rules.{IsOneOf}
use Rattle.cut_laws.specs.declared.event.Event.{Event}
use Rattle.cut_laws.proofs.Basics.{in_left, in_right, in_either}
use Rattle.beside_laws.specs.Steps.{IsMidst}
use Rattle.turn_laws.specs.Books.{Grant, flush_at}
use Rattle.turn_laws.specs.Need.{Amount, nothing, IsNeed}
use Rattle.turn_laws.specs.Ways.{own_turns}
use Rattle.merge_laws.specs.Phases.{phase_of}
use Rattle.merge_laws.specs.Plays.{Aloft, PlayState, StopsWaiting, PlaysBegin}
use Rattle.merge_laws.proofs.Playing.{KeysDiffer, differ_more}
use Rattle.space_laws.proofs.Asked.{enters_counted}
use Rattle.turn_ties.specs.Plans.{image_held, planning_of}
use Rattle.book_laws.specs.Brings.{brought_by}
use Rattle.book_laws.specs.Midway.{Midway, machine_beside, books_beside}
use Rattle.book_laws.specs.Pairs.{commit_under, bringing_under, PairsBeside, IsOpenBeside}
use Rattle.book_laws.specs.Walk.{Bookkeeping, open_stamps, grants_in, BeginsThere}
use Rattle.book_laws.proofs.Played.{PlayFits}
use Rattle.book_laws.proofs.Beside.{UsedBy, place_by, open_once, differ_both, legal_run, fewer_beside, more_beside, amid}
use Rattle.book_laws.proofs.Calm.{CalmSo, TurnAt, midway_of, StepsTo, waiting_same, waiting_left, left_within, waited_there, waits_not_aloft, waits_here}
use Rattle.book_laws.proofs.Grants.{GrantsFit, fits_same, fits_at_once}
use Rattle.book_laws.proofs.Machine.{TellsCommit, begins_event, begin_taken}
use Rattle.book_laws.proofs.PlansFit.{need_there, planned_has}

-- the stamps of commits aloft
abbrev pub stamps_of : List Aloft → List ℕ
stamps_of aloft = map (λ flight. flight.stamp) aloft

module _ (kept : Bookkeeping) (place : TurnAt kept) where
  abbrev front : List Turn
  front = place.front

  abbrev turn : Turn
  turn = place.turn

  abbrev at : PlayState
  at = place.at

  abbrev so : PlayFits front at
  so = place.so

  abbrev calm : CalmSo kept front at
  calm = place.calm

  abbrev own : ℕ
  own = turn.stamp.0

  abbrev opens : List ℕ
  opens = open_stamps at

  abbrev mid : Midway
  mid = midway_of kept front at calm

  abbrev grants_now : List Grant
  grants_now = grants_in kept.pairs front

  abbrev grants_then : List Grant
  grants_then = grants_in kept.pairs (front ++ turn ∷ [])

  midst : IsMidst (place_by kept.pairs calm.volume at calm.used)
  midst = amid kept.pairs calm.volume at calm.used (open_once (λ stamp. phase_of stamp front) at so.fits) calm.imagined.beside calm.used_by

  -- a commit begins: it flies behind the others
  abbrev begun : List ℕ → PlayState
  begun left = record at { waiting = left; aloft = at.aloft ++ record { stamp = own; opened = false } ∷ [] }

  begun_stamps : (left : List ℕ) (stamp : ℕ) → IsOneOf (open_stamps (begun left)) stamp
      → (stamp ≡ own) ⊎ (IsOneOf left stamp ⊎ IsOneOf (stamps_of at.aloft) stamp)
  begun_stamps left stamp one =
      elim (in_either left (stamps_of (at.aloft ++ record { stamp = own; opened = false } ∷ [])) stamp one) [
        | inl waits ↦ inr (inl waits)
        | inr flies ↦
            elim (in_either (stamps_of at.aloft) (own ∷ []) stamp
            (subst (λ (l : List ℕ). IsOneOf l stamp)
            (map-append (λ (flight : Aloft). flight.stamp) at.aloft (record { stamp = own; opened = false } ∷ [])) flies)) [
              | inl before ↦ inr (inr before)
              | inr last ↦ elim last [ inl e ↦ inl (sym e) | inr none ↦ absurd none ]
            ]
      ]

  begun_used : UsedBy kept.pairs (begun []) (calm.used ++ (commit_under kept.pairs own).number ∷ [])
  begun_used number one = elim (in_either calm.used ((commit_under kept.pairs own).number ∷ []) number one) [
    | inl before ↦
        let was = calm.used_by number before in (
          was.0,
          elim (in_either at.done (stamps_of at.aloft) was.0 was.1) [
            | inl done ↦ in_left at.done (stamps_of (begun []).aloft) was.0 done
            | inr flies ↦ flies_more was.0 (in_left (stamps_of at.aloft) (own ∷ []) was.0 flies)
          ],
          was.2,
        )
    | inr last ↦ elim last [
      | inl e ↦ (own, flies_more own (in_right (stamps_of at.aloft) (own ∷ []) own (inl refl)), e)
      | inr none ↦ absurd none
    ]
  ]
    where
      flies_more : (stamp : ℕ) → IsOneOf (stamps_of at.aloft ++ own ∷ []) stamp → IsOneOf (at.done ++ stamps_of (begun []).aloft) stamp
      flies_more stamp there =
          in_right at.done (stamps_of (begun []).aloft) stamp
          (subst (λ (l : List ℕ). IsOneOf l stamp)
          (sym (map-append (λ (flight : Aloft). flight.stamp) at.aloft (record { stamp = own; opened = false } ∷ []))) there)

  -- what is known there then
  calm_begun : (left : List ℕ) → PairsBeside kept.pairs at.done (open_stamps (begun left)) calm.volume
      → GrantsFit kept.pairs (front ++ turn ∷ []) (open_stamps (begun left)) grants_then → CalmSo kept (front ++ turn ∷ []) (begun left)
  calm_begun left beside grants = record {
    volume = calm.volume;
    imagined = record {
      stands = calm.imagined.stands;
      imagines = calm.imagined.imagines;
      beside = beside;
    };
    used = calm.used ++ (commit_under kept.pairs own).number ∷ [];
    used_by = begun_used;
    grants = grants;
  }

  module _ (number_is : turn.commit ≡ (commit_under kept.pairs own).number) (grants_are : grants_then ≡ grants_now) where
    tells : IsOpenBeside calm.volume (map (commit_under kept.pairs) at.done) (kept.pairs own) → TellsCommit kept.pairs turn
    tells its = record { number = number_is; own = its.flush ∙ place.flush_is }

    -- an fsync that waited begins its commit
    module _ (left : List ℕ) (stops : StopsWaiting at own left) where
      own_open : IsOneOf opens own
      own_open = in_left at.waiting (stamps_of at.aloft) own (waited_there at own left stops)

      begun_within : (stamp : ℕ) → IsOneOf (open_stamps (begun left)) stamp → IsOneOf opens stamp
      begun_within stamp one = elim (begun_stamps left stamp one) [
        | inl e ↦ subst (IsOneOf opens) (sym e) own_open
        | inr rest ↦ elim rest [
          | inl waits ↦ in_left at.waiting (stamps_of at.aloft) stamp (left_within at own left stops stamp waits).0
          | inr flies ↦ in_right at.waiting (stamps_of at.aloft) stamp flies
        ]
      ]

      abbrev waited_next : CalmSo kept (front ++ turn ∷ []) (begun left)
      waited_next = calm_begun left (fewer_beside kept.pairs calm.volume at.done opens (open_stamps (begun left)) begun_within calm.imagined.beside)
          (subst (GrantsFit kept.pairs (front ++ turn ∷ []) (open_stamps (begun left))) (sym grants_are)
          (fits_same kept.pairs front turn opens grants_now calm.grants (open_stamps (begun left)) begun_within))

      begins_waited : StepsTo kept front turn at calm act.CutAt (begun left)
      unfolding calm_begun
      begins_waited = record {
        next = waited_next;
        does = record {
          may = inl (waits_here kept place left stops);
          machine = machine_beside (midway_of kept (front ++ turn ∷ []) (begun left) waited_next);
          taken =
              subst
              (λ (e : Event). Accepts (machine_beside mid) e (machine_beside (midway_of kept (front ++ turn ∷ []) (begun left) waited_next)))
              (begins_event kept.pairs turn (tells (calm.imagined.beside.opens own own_open)))
              (begin_taken kept.pairs calm.volume at calm.used own midst stops.before stops.behind
              (legal_run calm.volume (map (commit_under kept.pairs) at.done) calm.imagined.stands) stops.waits.whole);
          later_is = λ i. record (books_beside (midway_of kept (front ++ turn ∷ []) (begun left) waited_next)) {
            grants = grants_are i;
            waiting = (sym (waiting_left kept.cores at own left stops)) i;
          };
        };
      }

    -- one that needs nothing does so with its first turn
    module _ (fit : BeginsThere kept at calm.volume turn) (first : own_turns own front ≡ []) (away : IsOneOf at.waiting own → ⊥)
        (fresh : (flight : Aloft) → IsOneOf at.aloft flight → flight.stamp ≢ own) where
      once_within : (stamp : ℕ) → IsOneOf (open_stamps (begun at.waiting)) stamp → (stamp ≡ own) ⊎ IsOneOf opens stamp
      once_within stamp one = elim (begun_stamps at.waiting stamp one) [
        | inl e ↦ inl e
        | inr rest ↦ elim rest [
          | inl waits ↦ inr (in_left at.waiting (stamps_of at.aloft) stamp waits)
          | inr flies ↦ inr (in_right at.waiting (stamps_of at.aloft) stamp flies)
        ]
      ]

      -- the same where it had waited a while
      abbrev waiting_on : PlayState
      waiting_on = record at { waiting = at.waiting ++ own ∷ [] }

      on_within : (stamp : ℕ) → IsOneOf (open_stamps waiting_on) stamp → (stamp ≡ own) ⊎ IsOneOf opens stamp
      on_within stamp one = elim (in_either (at.waiting ++ own ∷ []) (stamps_of at.aloft) stamp one) [
        | inl waits ↦ elim (in_either at.waiting (own ∷ []) stamp waits) [
          | inl before ↦ inr (in_left at.waiting (stamps_of at.aloft) stamp before)
          | inr last ↦ elim last [ inl e ↦ inl (sym e) | inr none ↦ absurd none ]
        ]
        | inr flies ↦ inr (in_right at.waiting (stamps_of at.aloft) stamp flies)
      ]

      on_once : KeysDiffer (λ stamp. stamp) (open_stamps waiting_on)
      on_once =
          differ_both (λ (flight : Aloft). flight.stamp) (at.waiting ++ own ∷ []) at.aloft
          (differ_more (λ (stamp : ℕ). stamp) at.waiting own so.fits.waits_once (λ stamp one same. away (subst (IsOneOf at.waiting) same one)))
          so.fits.flies_once
          (λ stamp flight waits flies same. elim (in_either at.waiting (own ∷ []) stamp waits) [
            | inl before ↦
                waits_not_aloft front at so stamp before
                (subst (IsOneOf (stamps_of at.aloft)) same (Rattle.cut_laws.proofs.Listed.to_map (λ (f : Aloft). f.stamp) at.aloft flight flies))
            | inr last ↦ elim last [ inl e ↦ fresh flight flies (same ∙ sym e) | inr none ↦ absurd none ]
          ])

      on_midst : IsMidst (place_by kept.pairs calm.volume waiting_on calm.used)
      on_midst =
          amid kept.pairs calm.volume waiting_on calm.used on_once
          (more_beside kept.pairs calm.volume at.done opens (open_stamps waiting_on) own on_within fit.pair calm.imagined.beside) calm.used_by

      no_inodes : (bringing_under kept.pairs own).grant.inodes ≡ []
      no_inodes =
          nil_from_length (bringing_under kept.pairs own).grant.inodes
          (fit.pair.opens.brings.planned.grants.serves.inodes.enough ∙ sym (enters_counted (bringing_under kept.pairs own).plan)
          ∙ ap (λ (a : Amount). a.inodes) fit.no_need)

      abbrev once_next : CalmSo kept (front ++ turn ∷ []) (begun at.waiting)
      once_next =
          calm_begun at.waiting
          (more_beside kept.pairs calm.volume at.done opens (open_stamps (begun at.waiting)) own once_within fit.pair calm.imagined.beside)
          (subst (GrantsFit kept.pairs (front ++ turn ∷ []) (open_stamps (begun at.waiting))) (sym grants_are)
          (fits_at_once kept.pairs front turn opens grants_now calm.grants (open_stamps (begun at.waiting)) once_within first no_inodes))

      needs_nothing : IsNeed (machine_beside mid) (image_held calm.volume) (flush_at turn) nothing
      needs_nothing =
          let brings = fit.pair.opens.brings in
          let one = brought_by (bringing_under kept.pairs own) brings in
          subst (IsNeed (machine_beside mid) (image_held calm.volume) (flush_at turn)) fit.no_need
          (need_there mid (planning_of one) turn (planned_has mid one turn calm.imagined.stands brings.planned brings.touched place.flush_is))

      begins_at_once : StepsTo kept front turn at calm act.CutAt (begun at.waiting)
      unfolding calm_begun
      begins_at_once = record {
        next = once_next;
        does = record {
          may = inr needs_nothing;
          machine = machine_beside (midway_of kept (front ++ turn ∷ []) (begun at.waiting) once_next);
          taken =
              subst
              (λ (e : Event). Accepts (machine_beside mid) e (machine_beside (midway_of kept (front ++ turn ∷ []) (begun at.waiting) once_next)))
              (begins_event kept.pairs turn (tells fit.pair.opens))
              (begin_taken kept.pairs calm.volume waiting_on calm.used own on_midst at.waiting []
              (legal_run calm.volume (map (commit_under kept.pairs) at.done) calm.imagined.stands) refl);
          later_is = λ i. record (books_beside (midway_of kept (front ++ turn ∷ []) (begun at.waiting) once_next)) {
            grants = grants_are i;
            waiting = (sym (waiting_same kept.cores own at.waiting away)) i;
          };
        };
      }

    pub begins_step : (later : PlayState) → PlaysBegin front at own later → ((IsOneOf at.waiting own → ⊥) → BeginsThere kept at calm.volume turn)
        → StepsTo kept front turn at calm act.CutAt later
    begins_step later plays fit =
        subst (StepsTo kept front turn at calm act.CutAt) (sym plays.later_is)
        (elim plays.waited as (λ _. StepsTo kept front turn at calm act.CutAt (begun plays.left)) [
          | inl stops ↦ begins_waited plays.left stops
          | inr at_first ↦
              subst (λ (l : List ℕ). StepsTo kept front turn at calm act.CutAt (begun l)) (sym at_first.1)
              (begins_at_once (fit at_first.2) at_first.0 at_first.2 plays.fresh)
        ])
