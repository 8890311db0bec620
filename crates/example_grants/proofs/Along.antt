-- What the two cores tell along the record.
use Rattle.std.proofs.Common.{◌∷◌, ◌++◌, ◌≡◌, ◌∙◌, ℕ, List, [], subst, sym, ap, refl, inl, inr, arith, zero, suc, length, eqb-true, take, Contains}
use Rattle.space_map.specs.declared.status.Status.TheVariants.{Granted, Taken, Free}
use Rattle.tree_laws.specs.declared.turns.Turn.{Turn}
use Rattle.tree_laws.specs.declared.turns.TurnAct.TheVariants as act
use Rattle.tree_laws.specs.declared.turns.TurnAct.{TurnAct}
use Rattle.cut_laws.specs.Rules.{IsOneOf}
use Rattle.flush_laws.specs.Volume.{Volume}
use Rattle.turn_laws.specs.Books.{flush_at}
use Rattle.turn_laws.specs.Ways.{HasCommit}
use Rattle.merge_laws.specs.Plays.{PlayState, Plays, nothing_played, no_play, one_play}
use Rattle.merge_laws.specs.Phases.{phase_of, has_reserved}
use Rattle.merge_laws.proofs.Worked.{of_each, some_turns}
use Rattle.book_laws.specs.Imagined.{none_brought}
use Rattle.book_laws.specs.Pairs.{Pair, ArePairsApart, PairReserves, bringing_under}
use Rattle.book_laws.specs.Walk.{IsVolumeAt}
use Rattle.book_laws.specs.WalkLaws.{AgreesWithBooks}
use Rattle.book_laws.specs.Along.{MapGoes, no_turn_made, one_turn_made, BeginsMap}
use Rattle.book_laws.proofs.Worked.{nothing_yet, first_volume, last_played}
use Rattle.book_laws.proofs.Played.{fits_play}
use Rattle.book_laws.proofs.Placed.{places_reserve}
use Rattle.book_laws.proofs.Walk.{records_are_kept}
use Rattle.reserve_laws.specs.Fits.{TellsAct, place_of, ReservesTold, CoresTell}
use Rattle.reserve_laws.proofs.Fits.{records_fit, told_reserve}
use Rattle.example_grants.specs.Fsyncs.{OWN, OTHER, pair_made, FILES_KEPT}
use Rattle.example_grants.specs.Image.{TWO_FILES}
use Rattle.example_grants.specs.Laws.{WritersReserve, WritersGoAlong}
use Rattle.example_grants.specs.Map.{map_with, map_behind, FIRST_MAP, FILES_MAPPED}
use Rattle.example_grants.specs.Turns.{own_act, other_act, FILES_TURNS, FILES_PENS}
use Rattle.example_grants.proofs.Mapped.{own_reserved, other_reserved, own_ended, other_ended, map_right, nothing_granted}
use Rattle.example_grants.proofs.Standing.{volume_stands, walk_begins}
use Rattle.example_grants.proofs.Telling.{entries_kept, own_is, other_is, own_serves, other_serves, tells}
use Rattle.example_grants.proofs.Turns.{HoldsFrom, holds_each, pens_agree, both_opened}

abbrev pairs : ℕ → Pair
pairs = FILES_KEPT.pairs

-- the two pairs share nothing
pub apart : ArePairsApart (pair_made OTHER) (pair_made OWN)
apart = record {
  numbers = λ same. omega (arith, same);
  nodes = λ share.
      let two = eqb-true share.node 2 share.one in
      let one = eqb-true share.node 1 share.two in omega (arith, two, one);
  inodes = λ i mine. absurd (let low = mine.1 in omega (arith, low));
  blocks = blocks;
}
  where
    only : (number block : ℕ) → Contains (number ∷ []) block → number ≡ block
    only number block (zero, low, is) = is
    only number block (suc k, low, is) = absurd (omega (arith, low))

    blocks : (block : ℕ) → Contains (13 ∷ []) block → Contains (11 ∷ []) block → ⊥
    blocks block mine theirs = let a = only 13 block mine in let b = only 11 block theirs in omega (arith, a, b)

-- the map goes along
abbrev GoesTo : List Turn → Turn → Type 0
GoesTo front turn = MapGoes pairs FIRST_MAP front (map_behind (length front))

goes_one : MapGoes pairs FIRST_MAP (own_act 0 act.Granted ∷ []) (map_with Granted Free)
goes_one = one_turn_made [] (own_act 0 act.Granted) FIRST_MAP (map_with Granted Free) no_turn_made own_reserved

goes_two : MapGoes pairs FIRST_MAP (own_act 0 act.Granted ∷ other_act 0 act.Granted ∷ []) (map_with Granted Granted)
goes_two = one_turn_made _ (other_act 0 act.Granted) (map_with Granted Free) (map_with Granted Granted) goes_one other_reserved

goes_three : MapGoes pairs FIRST_MAP (take 3 FILES_TURNS) (map_with Granted Granted)
goes_three =
    one_turn_made _ (other_act 10 act.CutAt) (map_with Granted Granted) (map_with Granted Granted) goes_two (λ none. absurd (some_turns none), refl)

goes_four : MapGoes pairs FIRST_MAP (take 4 FILES_TURNS) (map_with Granted Granted)
goes_four = one_turn_made _ (other_act 10 act.Opened) (map_with Granted Granted) (map_with Granted Granted) goes_three refl

goes_five : MapGoes pairs FIRST_MAP (take 5 FILES_TURNS) (map_with Granted Granted)
goes_five =
    one_turn_made _ (own_act 11 act.CutAt) (map_with Granted Granted) (map_with Granted Granted) goes_four (λ none. absurd (some_turns none), refl)

goes_six : MapGoes pairs FIRST_MAP (take 6 FILES_TURNS) (map_with Granted Granted)
goes_six = one_turn_made _ (own_act 11 act.Opened) (map_with Granted Granted) (map_with Granted Granted) goes_five refl

goes_seven : MapGoes pairs FIRST_MAP (take 7 FILES_TURNS) (map_with Granted Taken)
goes_seven = one_turn_made _ (other_act 12 act.Durable) (map_with Granted Granted) (map_with Granted Taken) goes_six other_ended

goes_eight : MapGoes pairs FIRST_MAP FILES_TURNS (map_with Taken Taken)
goes_eight = one_turn_made _ (own_act 13 act.Durable) (map_with Granted Taken) (map_with Taken Taken) goes_seven own_ended

map_goes : HoldsFrom GoesTo [] FILES_TURNS
map_goes = (no_turn_made, (goes_one, (goes_two, (goes_three, (goes_four, (goes_five, (goes_six, (goes_seven, tt))))))))

-- what is told at a place
abbrev Tells : List Turn → Turn → Type 0
Tells front turn = (at : PlayState) (volume : Volume) → Plays front at → IsVolumeAt FILES_KEPT at volume
    → TellsAct turn.act pairs (place_of (λ front. map_behind (length front)) front at volume) turn

abbrev ReservesAt : ℕ → List Turn → PlayState → Volume → Type 0
ReservesAt stamp front at volume = ReservesTold pairs (place_of (λ front. map_behind (length front)) front at volume) stamp

abbrev OWN_WAITS : PlayState
OWN_WAITS = record nothing_played { waiting = 2 ∷ [] }

other_apart : (other : ℕ) → IsOneOf (2 ∷ []) other → ArePairsApart (pair_made OTHER) (pairs other)
other_apart other one = elim one [
  | inl same ↦ subst (λ stamp. ArePairsApart (pair_made OTHER) (pairs stamp)) same apart
  | inr never ↦ absurd never
]

own_tells : Tells [] (own_act 0 act.Granted)
own_tells at volume plays is =
    let nothing = nothing_yet [] at plays refl in
    subst (λ (s : PlayState). ReservesAt 2 [] s volume) (sym nothing)
    (subst (λ (v : Volume). ReservesAt 2 [] nothing_played v)
    (sym (first_volume FILES_KEPT at volume (ap (λ (s : PlayState). s.done) nothing) is)) (record {
      there = record { tells = tells OWN own_is; apart = λ other one. absurd one };
      left = map_with Granted Free;
      reserved = own_reserved;
    }))

other_tells : Tells (own_act 0 act.Granted ∷ []) (other_act 0 act.Granted)
other_tells at volume plays is =
    let front : List Turn = own_act 0 act.Granted ∷ [] in
    let last = last_played front at plays [] (own_act 0 act.Granted) refl in
    let waits : at ≡ OWN_WAITS =
    last.did.later_is ∙ ap (λ (s : PlayState). record s { waiting = s.waiting ++ 2 ∷ [] }) (nothing_yet [] last.at last.plays refl) in
    subst (λ (s : PlayState). ReservesAt 3 front s volume) (sym waits)
    (subst (λ (v : Volume). ReservesAt 3 front OWN_WAITS v)
    (sym (first_volume FILES_KEPT at volume (ap (λ (s : PlayState). s.done) waits) is)) (record {
      there = record { tells = tells OTHER other_is; apart = other_apart };
      left = map_with Granted Granted;
      reserved = other_reserved;
    }))

begins_tell : (front : List Turn) (turn : Turn) → turn.act ≡ act.CutAt → phase_of turn.stamp.0 front ≡ has_reserved → Tells front turn
begins_tell front turn did reserved at volume plays is =
    subst (λ (a : TurnAct). TellsAct a pairs (place_of (λ front. map_behind (length front)) front at volume) turn) (sym did)
    (λ never. absurd (never ((fits_play front at plays).fits.reserved turn.stamp.0 reserved)))

all_tell : HoldsFrom Tells [] FILES_TURNS
all_tell = (
  own_tells,
  (
    other_tells,
    (
      begins_tell _ (other_act 10 act.CutAt) refl refl,
      (
        λ at volume plays is. tt,
        (
          begins_tell _ (own_act 11 act.CutAt) refl refl,
          (λ at volume plays is. tt, (λ at volume plays is. tt, (λ at volume plays is. tt, tt))),
        ),
      ),
    ),
  ),
)

map_begins : BeginsMap FILES_MAPPED
map_begins = record { stands = volume_stands; keeps = entries_kept; right = map_right; none = nothing_granted }

cores_tell : CoresTell FILES_MAPPED FILES_TURNS
cores_tell = record {
  begins = map_begins;
  core = of_each (λ (t : Turn). t.core.0 ≡ FILES_KEPT.cores t.stamp.0) FILES_TURNS
      (refl, (refl, (refl, (refl, (refl, (refl, (refl, (refl, tt))))))));
  flush = of_each (λ (t : Turn). (bringing_under pairs t.stamp.0).flush ≡ flush_at t) FILES_TURNS
      (refl, (refl, (refl, (refl, (refl, (refl, (refl, (refl, tt))))))));
  commit = of_each (λ (t : Turn). HasCommit (pairs t.stamp.0).commit.number t.act t.commit) FILES_TURNS
      (inl refl, (inl refl, (refl, (refl, (refl, (refl, (refl, (refl, tt))))))));
  map_at = λ front. map_behind (length front);
  goes = λ front turn at volume place. holds_each GoesTo FILES_TURNS [] map_goes front place.back turn place.whole;
  tells = λ front turn at volume place.
      holds_each Tells FILES_TURNS [] all_tell front place.back turn place.whole at volume place.plays place.imagined;
}

-- both reserve with the first volume
own_may_reserve : PairReserves pairs TWO_FILES [] [] 2
own_may_reserve = told_reserve pairs TWO_FILES [] [] 2 (record { tells = tells OWN own_is; serves = own_serves; apart = λ other one. absurd one })

other_may_reserve : PairReserves pairs TWO_FILES [] (2 ∷ []) 3
other_may_reserve = told_reserve pairs TWO_FILES [] (2 ∷ []) 3 (record { tells = tells OTHER other_is; serves = other_serves; apart = other_apart })

own_waits : Plays (own_act 0 act.Granted ∷ []) OWN_WAITS
own_waits =
    one_play [] (own_act 0 act.Granted) nothing_played _ no_play (record { calm = refl; first = refl; fresh = λ one. one; later_is = refl })

writers_reserve : WritersReserve
writers_reserve = record {
  own = places_reserve FILES_MAPPED (record { front = []; at = nothing_played; volume = TWO_FILES; space = FIRST_MAP }) (own_act 0 act.Granted)
      (map_with Granted Free)
      (record { begins = map_begins; plays = no_play; calm = refl; imagines = none_brought; goes = no_turn_made }) own_may_reserve own_reserved;
  own_least = refl;
  other = places_reserve FILES_MAPPED
      (record { front = own_act 0 act.Granted ∷ []; at = OWN_WAITS; volume = TWO_FILES; space = map_with Granted Free }) (other_act 0 act.Granted)
      (map_with Granted Granted)
      (record { begins = map_begins; plays = own_waits; calm = refl; imagines = none_brought; goes = goes_one }) other_may_reserve other_reserved;
  other_least = refl;
  apart = apart;
}

pub writers_go_along : WritersGoAlong
writers_go_along =
    let fits = records_fit FILES_MAPPED FILES_TURNS cores_tell in
    let agrees : AgreesWithBooks FILES_KEPT 0 0 0 FILES_TURNS FILES_PENS =
    record { begins = walk_begins; agrees = pens_agree; since = omega arith; fits = fits } in
    record {
      told = cores_tell;
      goes = goes_eight;
      reserve = writers_reserve;
      aloft = both_opened;
      fits = fits;
      agrees = agrees;
      recorded = records_are_kept FILES_KEPT 0 0 0 FILES_TURNS FILES_PENS agrees;
    }
