-- What is known at a place where no commit has failed, and turns there that reserve, lack or give back.
use Rattle.std.proofs.Common.{◌≡◌, ◌≢◌, ◌⊎◌, ◌∷◌, ◌++◌, ◌∙◌, ℕ, Bool, cond, not, List, [], map, filter, inl, inr, refl, sym, ap, subst}
use Rattle.std.proofs.lemmas.List.{map-append}
use Rattle.sfs_base.specs.declared.numbers.SpaceKind.{SpaceKind}
use Rattle.sfs_base.proofs.BasicNumbers.{same_number, not_same}
use Rattle.sfs_base.proofs.BasicTruth.{false_not_true}
use Rattle.tree_laws.specs.declared.turns.Turn.{Turn}
use Rattle.tree_laws.specs.declared.turns.TurnAct.{TurnAct}
use Rattle.tree_laws.specs.declared.turns.TurnAct.TheVariants as act
use Rattle.cut_laws.specs.Rules.{IsOneOf}
use Rattle.cut_laws.proofs.Basics.{in_left, in_right, in_either}
use Rattle.cut_laws.proofs.Listed.{from_map, to_map}
use Rattle.flush_laws.specs.Volume.{Volume}
use Rattle.turn_laws.specs.Books.{Grant, Waiting, flush_at, waiting_for, is_other_grant, is_other_waiting, Does}
use Rattle.merge_laws.specs.Phases.{phase_of, flies_in}
use Rattle.merge_laws.specs.Plays.{Aloft, PlayState, StopsWaiting, PlaysGrant, PlaysShort, PlaysBack}
use Rattle.merge_laws.proofs.Blocks.{same_or_not}
use Rattle.merge_laws.proofs.Lists.{among_at, with_one}
use Rattle.merge_laws.proofs.Playing.{fits_flies}
use Rattle.turn_ties.specs.Plans.{planning_of, amount_planned}
use Rattle.book_laws.specs.Brings.{brought_by}
use Rattle.book_laws.specs.Midway.{Midway, books_beside}
use Rattle.book_laws.specs.Pairs.{bringing_under}
use Rattle.book_laws.specs.Walk.{Bookkeeping, open_stamps, flights_by, waits_at, grant_at, grants_in, IsVolumeAt, ReservesThere, LacksThere}
use Rattle.book_laws.proofs.Played.{PlayFits}
use Rattle.book_laws.proofs.Beside.{UsedBy, fewer_beside, more_beside}
use Rattle.book_laws.proofs.Grants.{GrantsFit, fits_same, fits_granted, fits_taken}
use Rattle.book_laws.proofs.PlansFit.{need_there, lacks_there, planned_has}

-- What is known at a place where none has failed.
pub record CalmSo (kept : Bookkeeping) (front : List Turn) (at : PlayState) : Type 0 where
  pub volume : Volume
  pub imagined : IsVolumeAt kept at volume
  pub used : List ℕ
  pub used_by : UsedBy kept.pairs at used
  pub grants : GrantsFit kept.pairs front (open_stamps at) (grants_in kept.pairs front)

-- the books' place
abbrev pub midway_of : (kept : Bookkeeping) (front : List Turn) (at : PlayState) → CalmSo kept front at → Midway
midway_of kept front at calm = record {
  volume = calm.volume;
  flights = flights_by kept.pairs at.aloft;
  used = calm.used;
  grants = grants_in kept.pairs front;
  waiting = map (waits_at kept.cores) at.waiting;
}

-- A turn does its act there, and it is calm behind it.
pub record StepsTo (kept : Bookkeeping) (front : List Turn) (turn : Turn) (at : PlayState) (calm : CalmSo kept front at) (did : TurnAct)
    (later : PlayState) : Type 0 where
  pub next : CalmSo kept (front ++ turn ∷ []) later
  pub does : Does did (books_beside (midway_of kept front at calm)) turn (books_beside (midway_of kept (front ++ turn ∷ []) later next))

-- a turn of its fsync's core is of one that waits with its stamp
pub waits_as : (kept : Bookkeeping) (turn : Turn) → turn.core.0 ≡ kept.cores turn.stamp.0 → waits_at kept.cores turn.stamp.0 ≡ waiting_for turn
waits_as kept turn core_is = λ i. record { core = (sym core_is) i; stamp = turn.stamp.0 }

-- one that does not wait is not taken from those that do, and one that does is
pub waiting_same : (cores : ℕ → ℕ) (own : ℕ) (stamps : List ℕ) → (IsOneOf stamps own → ⊥)
    → filter (is_other_waiting own) (map (waits_at cores) stamps) ≡ map (waits_at cores) stamps
waiting_same cores own [] away = refl
waiting_same cores own (stamp ∷ stamps) away =
    ap
    (λ (b : Bool). cond (not b) (waits_at cores stamp ∷ filter (is_other_waiting own) (map (waits_at cores) stamps))
    (filter (is_other_waiting own) (map (waits_at cores) stamps)))
    (not_same stamp own (λ e. away (inl e)))
    ∙ ap (λ (l : List Waiting). waits_at cores stamp ∷ l) (waiting_same cores own stamps (λ one. away (inr one)))

pub waiting_less : (cores : ℕ → ℕ) (own : ℕ) (before behind : List ℕ) → (IsOneOf (before ++ behind) own → ⊥)
    → filter (is_other_waiting own) (map (waits_at cores) (before ++ own ∷ behind)) ≡ map (waits_at cores) (before ++ behind)
waiting_less cores own [] behind away =
    ap
    (λ (b : Bool). cond (not b) (waits_at cores own ∷ filter (is_other_waiting own) (map (waits_at cores) behind))
    (filter (is_other_waiting own) (map (waits_at cores) behind)))
    (same_number own)
    ∙ waiting_same cores own behind away
waiting_less cores own (stamp ∷ before) behind away =
    ap
    (λ (b : Bool). cond (not b) (waits_at cores stamp ∷ filter (is_other_waiting own) (map (waits_at cores) (before ++ own ∷ behind)))
    (filter (is_other_waiting own) (map (waits_at cores) (before ++ own ∷ behind))))
    (not_same stamp own (λ e. away (inl e)))
    ∙ ap (λ (l : List Waiting). waits_at cores stamp ∷ l) (waiting_less cores own before behind (λ one. away (inr one)))

pub waiting_left : (cores : ℕ → ℕ) (at : PlayState) (own : ℕ) (left : List ℕ) → StopsWaiting at own left
    → filter (is_other_waiting own) (map (waits_at cores) at.waiting) ≡ map (waits_at cores) left
waiting_left cores at own left stops =
    ap (λ (l : List ℕ). filter (is_other_waiting own) (map (waits_at cores) l)) stops.waits.whole
    ∙ waiting_less cores own stops.before stops.behind stops.waits.once
    ∙ ap (map (waits_at cores)) (sym stops.left_is)

-- those left are those that waited, but for the one
pub left_within : (at : PlayState) (own : ℕ) (left : List ℕ) → StopsWaiting at own left → (stamp : ℕ) → IsOneOf left stamp
    → IsOneOf at.waiting stamp × (stamp ≢ own)
left_within at own left stops stamp one =
    let there = subst (λ (l : List ℕ). IsOneOf l stamp) stops.left_is one in (
      subst (λ (l : List ℕ). IsOneOf l stamp) (sym stops.waits.whole) (with_one stops.before own stops.behind stamp there),
      λ e. stops.waits.once (subst (IsOneOf (stops.before ++ stops.behind)) e there),
    )

pub waited_there : (at : PlayState) (own : ℕ) (left : List ℕ) → StopsWaiting at own left → IsOneOf at.waiting own
waited_there at own left stops = subst (λ (l : List ℕ). IsOneOf l own) (sym stops.waits.whole) (among_at stops.before own stops.behind)

-- one that waits is not aloft
pub waits_not_aloft : (front : List Turn) (at : PlayState) → PlayFits front at → (stamp : ℕ) → IsOneOf at.waiting stamp
    → IsOneOf (map (λ flight. flight.stamp) at.aloft) stamp → ⊥
waits_not_aloft front at so stamp waits flies =
    let from = from_map (λ (flight : Aloft). flight.stamp) at.aloft stamp flies in
    false_not_true
    (sym (ap flies_in (so.fits.waits stamp waits)) ∙ ap (λ (n : ℕ). flies_in (phase_of n front)) (sym from.2)
    ∙ fits_flies from.0.opened (phase_of from.0.stamp front) (so.fits.flies from.0 from.1))

-- A turn at a place where none has failed, of its fsync and its core.
pub record TurnAt (kept : Bookkeeping) : Type 0 where
  pub front : List Turn
  pub turn : Turn
  pub at : PlayState
  pub so : PlayFits front at
  pub calm : CalmSo kept front at
  pub core_is : turn.core.0 ≡ kept.cores turn.stamp.0
  pub flush_is : (bringing_under kept.pairs turn.stamp.0).flush ≡ flush_at turn

module _ (kept : Bookkeeping) (place : TurnAt kept) where
  abbrev front : List Turn
  front = place.front

  abbrev turn : Turn
  turn = place.turn

  abbrev at : PlayState
  at = place.at

  abbrev so : PlayFits front at
  so = place.so

  abbrev calm : CalmSo kept front at
  calm = place.calm

  abbrev own : ℕ
  own = turn.stamp.0

  abbrev opens : List ℕ
  opens = open_stamps at

  abbrev mid : Midway
  mid = midway_of kept front at calm

  abbrev grants_now : List Grant
  grants_now = grants_in kept.pairs front

  abbrev grants_then : List Grant
  grants_then = grants_in kept.pairs (front ++ turn ∷ [])

  -- It reserves.
  module _ (fit : ReservesThere kept grants_now at calm.volume turn) (first : Rattle.turn_laws.specs.Ways.own_turns own front ≡ [])
      (grants_are : grants_then ≡ grants_now ++ grant_at kept.pairs own ∷ []) where
    abbrev reserved : PlayState
    reserved = record at { waiting = at.waiting ++ own ∷ [] }

    within : (stamp : ℕ) → IsOneOf (open_stamps reserved) stamp → (stamp ≡ own) ⊎ IsOneOf opens stamp
    within stamp one = elim (in_either (at.waiting ++ own ∷ []) (map (λ (flight : Aloft). flight.stamp) at.aloft) stamp one) [
      | inl waits ↦ elim (in_either at.waiting (own ∷ []) stamp waits) [
        | inl before ↦ inr (in_left at.waiting (map (λ (flight : Aloft). flight.stamp) at.aloft) stamp before)
        | inr last ↦ elim last [ inl e ↦ inl (sym e) | inr none ↦ absurd none ]
      ]
      | inr flies ↦ inr (in_right at.waiting (map (λ (flight : Aloft). flight.stamp) at.aloft) stamp flies)
    ]

    within_apart : (stamp : ℕ) → IsOneOf (open_stamps reserved) stamp → (stamp ≡ own) ⊎ (IsOneOf opens stamp × (stamp ≢ own))
    within_apart stamp one = elim (same_or_not stamp own) [
      | inl e ↦ inl e
      | inr differ ↦ elim (within stamp one) [ inl e ↦ inl e | inr there ↦ inr (there, differ) ]
    ]

    calm_reserved : CalmSo kept (front ++ turn ∷ []) reserved
    calm_reserved = record {
      volume = calm.volume;
      imagined = record {
        stands = calm.imagined.stands;
        imagines = calm.imagined.imagines;
        beside = more_beside kept.pairs calm.volume at.done opens (open_stamps reserved) own within fit.pair calm.imagined.beside;
      };
      used = calm.used;
      used_by = calm.used_by;
      grants =
          subst (GrantsFit kept.pairs (front ++ turn ∷ []) (open_stamps reserved)) (sym grants_are)
          (fits_granted kept.pairs front turn opens grants_now calm.grants (open_stamps reserved) within_apart first);
    }

    reserves_now : StepsTo kept front turn at calm act.Granted reserved
    unfolding calm_reserved
    reserves_now =
        let brings = fit.pair.opens.brings in
        let one = brought_by (bringing_under kept.pairs own) brings in
        let plans = planned_has mid one turn calm.imagined.stands brings.planned brings.touched place.flush_is in
        record {
          next = calm_reserved;
          does = record {
            need = amount_planned (bringing_under kept.pairs own).plan;
            needs = need_there mid (planning_of one) turn plans;
            fits = fit.fits;
            later_is = λ i. books_beside (record mid {
              grants = (grants_are ∙ ap (λ (l : List ℕ). grants_now ++ record (grant_at kept.pairs own) { inodes = l } ∷ []) fit.least) i;
              waiting =
                  (map-append (waits_at kept.cores) at.waiting (own ∷ [])
                  ∙ ap (λ (w : Waiting). map (waits_at kept.cores) at.waiting ++ w ∷ []) (waits_as kept turn place.core_is)) i;
            });
          };
        }

  pub reserves_step : (later : PlayState) → PlaysGrant front at own later → ReservesThere kept grants_now at calm.volume turn
      → grants_then ≡ grants_now ++ grant_at kept.pairs own ∷ [] → StepsTo kept front turn at calm act.Granted later
  reserves_step later plays fit grants_are =
      subst (StepsTo kept front turn at calm act.Granted) (sym plays.later_is) (reserves_now fit plays.first grants_are)

  -- It lacks room.
  pub lacks_step : (kind : SpaceKind) (asked have : ℕ) (later : PlayState) → PlaysShort front at own later
      → LacksThere grants_now calm.volume turn kind asked have → grants_then ≡ grants_now
      → StepsTo kept front turn at calm (act.Short kind asked have) later
  lacks_step kind asked have later plays fit grants_are =
      subst (StepsTo kept front turn at calm (act.Short kind asked have)) (sym plays.later_is) (
      let does = lacks_there mid fit.planning turn fit.plans kind asked have fit.short in
      record {
        next = record {
          volume = calm.volume;
          imagined = calm.imagined;
          used = calm.used;
          used_by = calm.used_by;
          grants =
              subst (GrantsFit kept.pairs (front ++ turn ∷ []) opens) (sym grants_are)
              (fits_same kept.pairs front turn opens grants_now calm.grants opens (λ stamp one. one));
        };
        does = record {
          need = does.need;
          needs = does.needs;
          short = does.short;
          later_is = λ i. books_beside (record mid { grants = grants_are i });
        };
      })

  -- It gives back.
  module _ (left : List ℕ) (stops : StopsWaiting at own left) where
    abbrev given : PlayState
    given = record at { waiting = left }

    pub back_within : (stamp : ℕ) → IsOneOf (open_stamps given) stamp → IsOneOf opens stamp × (stamp ≢ own)
    back_within stamp one = elim (in_either left (map (λ (flight : Aloft). flight.stamp) at.aloft) stamp one) [
      | inl waits ↦
          let was = left_within at own left stops stamp waits in
          (in_left at.waiting (map (λ (flight : Aloft). flight.stamp) at.aloft) stamp was.0, was.1)
      | inr flies ↦ (
        in_right at.waiting (map (λ (flight : Aloft). flight.stamp) at.aloft) stamp flies,
        λ e.
            waits_not_aloft front at so own (waited_there at own left stops)
            (subst (IsOneOf (map (λ (flight : Aloft). flight.stamp) at.aloft)) e flies),
      )
    ]

    pub waits_here : IsOneOf (map (waits_at kept.cores) at.waiting) (waiting_for turn)
    waits_here =
        subst (IsOneOf (map (waits_at kept.cores) at.waiting)) (waits_as kept turn place.core_is)
        (to_map (waits_at kept.cores) at.waiting own (waited_there at own left stops))

    gives_now : grants_then ≡ filter (is_other_grant own) grants_now → StepsTo kept front turn at calm act.GivenBack given
    gives_now grants_are = record {
      next = record {
        volume = calm.volume;
        imagined = record {
          stands = calm.imagined.stands;
          imagines = calm.imagined.imagines;
          beside =
              fewer_beside kept.pairs calm.volume at.done opens (open_stamps given) (λ stamp one. (back_within stamp one).0) calm.imagined.beside;
        };
        used = calm.used;
        used_by = calm.used_by;
        grants =
            subst (GrantsFit kept.pairs (front ++ turn ∷ []) (open_stamps given)) (sym grants_are)
            (fits_taken kept.pairs front turn opens grants_now calm.grants (open_stamps given) back_within);
      };
      does = record {
        waits = waits_here;
        later_is = λ i. books_beside (record mid { grants = grants_are i; waiting = (sym (waiting_left kept.cores at own left stops)) i });
      };
    }

  pub gives_step : (later : PlayState) → PlaysBack at own later → grants_then ≡ filter (is_other_grant own) grants_now
      → StepsTo kept front turn at calm act.GivenBack later
  gives_step later plays grants_are =
      subst (StepsTo kept front turn at calm act.GivenBack) (sym plays.later_is) (gives_now plays.left plays.waited grants_are)
