-- The worked record of two pens agrees with the books.
use Rattle.std.proofs.Common.{◌≡◌, ◌∷◌, ◌++◌, ◌∙◌, List, [], arith, inl, refl, sym, ap, subst}
use Rattle.std.proofs.lemmas.List.{append-nil, append_assoc, same_from_push}
use Rattle.tree_laws.specs.declared.history.Entry.{Entry}
use Rattle.tree_laws.specs.declared.turns.Turn.{Turn}
use Rattle.tree_laws.specs.declared.turns.TurnAct.TheVariants as act
use Rattle.tree_laws.specs.Tree.{TreeState}
use Rattle.flush_laws.specs.Volume.{Volume}
use Rattle.turn_laws.specs.Ways.{HasCommit}
use Rattle.turn_laws.specs.Books.{flush_at}
use Rattle.merge_laws.specs.Pens.{AgreesAll}
use Rattle.merge_laws.specs.Phases.{phase_of, has_reserved}
use Rattle.merge_laws.specs.Plays.{PlayState, nothing_played, Plays, no_play, one_play, PlaysAct}
use Rattle.merge_laws.specs.Worked.{BOTH_HISTORY, BOTH_TURNS, BOTH_PENS, own_turn, other_turn}
use Rattle.merge_laws.proofs.Lists.{heads_are, nothing_there}
use Rattle.merge_laws.proofs.Worked.{of_each, two_pens_agree}
use Rattle.book_laws.proofs.Imagined.{first_imagined}
use Rattle.book_laws.specs.Pairs.{bringing_under}
use Rattle.book_laws.specs.Walk.{Bookkeeping, FitsAct, FitsRecord, IsVolumeAt, ReservesThere, grant_at, grants_in, brought_under}
use Rattle.book_laws.specs.Worked.{TwoReserve, TwoPensAreKept}
use Rattle.book_laws.proofs.Played.{fits_play}

-- before the first commit is done, the volume imagined is the first one
pub first_volume : (kept : Bookkeeping) (at : PlayState) (volume : Volume) → at.done ≡ [] → IsVolumeAt kept at volume → volume ≡ kept.start
first_volume kept at volume empty_yet is =
    first_imagined kept.start volume (brought_under kept.pairs at.done) is.imagines (ap (brought_under kept.pairs) empty_yet)

-- The last turn of a play, with what fsyncs had done before it.
pub record LastPlayed (front : List Turn) (turn : Turn) (later : PlayState) : Type 0 where
  pub at : PlayState
  pub plays : Plays front at
  pub did : PlaysAct turn.act front at turn later

pub nothing_yet : (turns : List Turn) (at : PlayState) → Plays turns at → turns ≡ [] → at ≡ nothing_played
nothing_yet _ _ no_play e = refl
nothing_yet _ _ (one_play turns turn at later plays did) e = absurd (nothing_there turns turn [] (sym e))

pub last_played : (turns : List Turn) (later : PlayState) → Plays turns later → (front : List Turn) (turn : Turn) → turns ≡ front ++ turn ∷ []
    → LastPlayed front turn later
last_played _ _ no_play front turn e = absurd (nothing_there front turn [] e)
last_played _ _ (one_play turns own at later plays did) front turn e =
    let same = same_from_push turns front own turn e in
    subst (λ (t : Turn). LastPlayed front t later) same.1
    (subst (λ (l : List Turn). LastPlayed l own later) same.0 (record { at = at; plays = plays; did = did }))

-- What is asked at each place of turns behind a front.
module _ (kept : Bookkeeping) where
  abbrev FitsHere : List Turn → Turn → Type 0
  FitsHere front turn = (at : PlayState) (volume : Volume) → Plays front at → IsVolumeAt kept at volume
      → FitsAct turn.act kept (grants_in kept.pairs front) at volume turn

  abbrev FitsFrom : List Turn → List Turn → Type 0
  FitsFrom front [] = Unit {0}
  FitsFrom front (turn ∷ turns) = FitsHere front turn × FitsFrom (front ++ turn ∷ []) turns

  fits_each : (turns front : List Turn) → FitsFrom front turns → (more back : List Turn) (turn : Turn) → turns ≡ more ++ turn ∷ back
      → FitsHere (front ++ more) turn
  fits_each [] front fits more back turn e = absurd (nothing_there more turn back e)
  fits_each (first ∷ turns) front fits [] back turn e =
      subst (FitsHere (front ++ [])) (heads_are first turn turns back e).0 (subst (λ (l : List Turn). FitsHere l first) (sym (append-nil front)) fits.0)
  fits_each (first ∷ turns) front fits (next ∷ more) back turn e =
      let same = heads_are first next turns (more ++ turn ∷ back) e in
      subst (λ (l : List Turn). FitsHere l turn) (append_assoc front (first ∷ []) more ∙ ap (λ (t : Turn). front ++ t ∷ more) same.0)
      (fits_each turns (front ++ first ∷ []) fits.1 more back turn same.1)

  module _ (two : TwoReserve kept) where
    own_fits : FitsHere [] (own_turn 0 0 act.Granted)
    own_fits at volume plays is =
        let nothing = nothing_yet [] at plays refl in
        subst (λ (s : PlayState). ReservesThere kept [] s volume (own_turn 0 0 act.Granted)) (sym nothing)
        (subst (λ (v : Volume). ReservesThere kept [] nothing_played v (own_turn 0 0 act.Granted))
        (sym (first_volume kept at volume (ap (λ (s : PlayState). s.done) nothing) is)) two.own_reserves)

    other_fits : FitsHere (own_turn 0 0 act.Granted ∷ []) (other_turn 0 0 act.Granted)
    other_fits at volume plays is =
        let last = last_played (own_turn 0 0 act.Granted ∷ []) at plays [] (own_turn 0 0 act.Granted) refl in
        let waits : at ≡ record nothing_played { waiting = 0 ∷ [] } =
        last.did.later_is ∙ ap (λ (s : PlayState). record s { waiting = s.waiting ++ 0 ∷ [] }) (nothing_yet [] last.at last.plays refl) in
        subst (λ (s : PlayState). ReservesThere kept (grant_at kept.pairs 0 ∷ []) s volume (other_turn 0 0 act.Granted)) (sym waits)
        (subst (λ (v : Volume). ReservesThere kept (grant_at kept.pairs 0 ∷ []) (record nothing_played { waiting = 0 ∷ [] }) v (other_turn 0 0 act.Granted))
        (sym (first_volume kept at volume (ap (λ (s : PlayState). s.done) waits) is)) two.other_reserves)

    -- one that begins had waited
    begins_fit : (front : List Turn) (turn : Turn) → turn.act ≡ act.CutAt → phase_of turn.stamp.0 front ≡ has_reserved → FitsHere front turn
    begins_fit front turn did reserved at volume plays is =
        subst (λ (a : Rattle.tree_laws.specs.declared.turns.TurnAct.TurnAct). FitsAct a kept (grants_in kept.pairs front) at volume turn) (sym did)
        (λ never. absurd (never ((fits_play front at plays).fits.reserved turn.stamp.0 reserved)))

    record_fits : FitsRecord kept BOTH_TURNS
    record_fits = record {
      core = of_each (λ (t : Turn). t.core.0 ≡ kept.cores t.stamp.0) BOTH_TURNS
          (own_core, (other_core, (own_core, (other_core, (other_core, (own_core, (other_core, (own_core, tt))))))));
      flush = of_each (λ (t : Turn). (bringing_under kept.pairs t.stamp.0).flush ≡ flush_at t) BOTH_TURNS
          (own_flush, (other_flush, (own_flush, (other_flush, (other_flush, (own_flush, (other_flush, (own_flush, tt))))))));
      commit = of_each (λ (t : Turn). HasCommit (kept.pairs t.stamp.0).commit.number t.act t.commit) BOTH_TURNS
          (inl own_number, (inl other_number, (own_number, (other_number, (other_number, (own_number, (other_number, (own_number, tt))))))));
      fits = λ front turn at volume place.
          fits_each BOTH_TURNS [] (
            own_fits,
            (
              other_fits,
              (
                begins_fit _ (own_turn 0 0 act.CutAt) refl refl,
                (
                  begins_fit _ (other_turn 0 0 act.CutAt) refl refl,
                  (
                    λ at volume plays is. tt,
                    (λ at volume plays is. tt, (λ at volume plays is. tt, (λ at volume plays is. tt, tt))),
                  ),
                ),
              ),
            ),
          ) front place.back turn place.whole at volume place.plays place.imagined;
    }
      where
        own_core : 0 ≡ kept.cores 0
        own_core = sym two.own.core_is

        other_core : 1 ≡ kept.cores 1
        other_core = sym two.other.core_is

        own_flush : (bringing_under kept.pairs 0).flush ≡ record { node = 1; stamp = 0 }
        own_flush = two.own.flush_is

        other_flush : (bringing_under kept.pairs 1).flush ≡ record { node = 0; stamp = 1 }
        other_flush = two.other.flush_is

        own_number : 1 ≡ (kept.pairs 0).commit.number
        own_number = sym two.own.number_is

        other_number : 2 ≡ (kept.pairs 1).commit.number
        other_number = sym two.other.number_is

pub two_pens_are_kept : TwoPensAreKept
two_pens_are_kept kept two = record {
  begins = two.begins;
  agrees =
      subst (λ (h : List Entry). AgreesAll kept.start.first h 0 0 BOTH_TURNS BOTH_PENS) (sym two.history)
      (subst (λ (t : TreeState). AgreesAll t BOTH_HISTORY 0 0 BOTH_TURNS BOTH_PENS) (sym two.first) two_pens_agree.agrees);
  since = omega arith;
  fits = record_fits kept two;
}
