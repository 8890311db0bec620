-- What the two cores tell along the worked record.
use Rattle.reserve_laws.proofs.Fits.{records_fit}
use Rattle.reserve_laws.specs.Fits.{by_look}
use Rattle.std.proofs.Common.{◌∷◌, ◌++◌, ◌≡◌, ◌∙◌, ℕ, List, [], subst, sym, append-nil, append_assoc, ap, refl, inl, inr}
use Rattle.tree_laws.specs.declared.turns.Turn.{Turn}
use Rattle.tree_laws.specs.declared.turns.TurnAct.TheVariants as act
use Rattle.tree_laws.specs.declared.turns.TurnAct.{TurnAct}
use Rattle.commit_laws.specs.CommitOfPlan.{CommitPlan}
use Rattle.flush_laws.specs.Volume.{Volume}
use Rattle.turn_laws.specs.Need.{nothing}
use Rattle.turn_laws.specs.Books.{flush_at}
use Rattle.turn_laws.specs.Ways.{HasCommit}
use Rattle.merge_laws.specs.Worked.{BOTH_TURNS, own_turn, other_turn, BOTH_PENS}
use Rattle.merge_laws.specs.Plays.{PlayState, Plays, nothing_played}
use Rattle.merge_laws.specs.Phases.{phase_of, has_reserved}
use Rattle.merge_laws.proofs.Lists.{nothing_there, heads_are}
use Rattle.merge_laws.proofs.Worked.{of_each}
use Rattle.turn_ties.specs.Plans.{amount_planned}
use Rattle.book_laws.specs.Pairs.{Pair, ArePairsApart, bringing_under}
use Rattle.book_laws.specs.Walk.{IsVolumeAt}
use Rattle.book_laws.proofs.Worked.{nothing_yet, first_volume, last_played, two_pens_are_kept}
use Rattle.book_laws.proofs.Played.{fits_play}
use Rattle.book_laws.proofs.Walk.{records_are_kept}
use Rattle.book_laws.specs.Along.{MapGoes, no_turn_made, one_turn_made}
use Rattle.reserve_laws.specs.Fits.{TellsAct, place_of, ReservesTold, CoresTell}
use Rattle.example_laws.specs.Fsyncs.{TWO_KEPT, commit_plan, FIRST_FLUSH, SECOND_FLUSH, sources_by, pair_by}
use Rattle.example_laws.specs.Map.{TWO_TAKEN, TWO_MAPPED}
use Rattle.example_laws.specs.Laws.{AreTwoCores}
use Rattle.example_laws.proofs.Plans.{NeedsNone, first_needs, second_needs}
use Rattle.example_laws.proofs.Mapped.{reserved_none, ended_none, map_right, nothing_granted}
use Rattle.example_laws.proofs.Telling.{core_tells, first_told, second_told, entries_kept, serves}
use Rattle.example_laws.proofs.Reserving.{apart, two_reserve}
use Rattle.example_laws.proofs.Standing.{volume_stands}

abbrev pairs : ℕ → Pair
pairs = TWO_KEPT.pairs

-- what holds at each place of turns behind a front
module _ (P : List Turn → Turn → Type 0) where
  abbrev HoldsFrom : List Turn → List Turn → Type 0
  HoldsFrom front [] = Unit {0}
  HoldsFrom front (turn ∷ turns) = P front turn × HoldsFrom (front ++ turn ∷ []) turns

  holds_each : (turns front : List Turn) → HoldsFrom front turns → (more back : List Turn) (turn : Turn) → turns ≡ more ++ turn ∷ back → P (front ++ more) turn
  holds_each [] front holds more back turn e = absurd (nothing_there more turn back e)
  holds_each (first ∷ turns) front holds [] back turn e =
      subst (P (front ++ [])) (heads_are first turn turns back e).0 (subst (λ (l : List Turn). P l first) (sym (append-nil front)) holds.0)
  holds_each (first ∷ turns) front holds (next ∷ more) back turn e =
      let same = heads_are first next turns (more ++ turn ∷ back) e in
      subst (λ (l : List Turn). P l turn) (append_assoc front (first ∷ []) more ∙ ap (λ (t : Turn). front ++ t ∷ more) same.0)
      (holds_each turns (front ++ first ∷ []) holds.1 more back turn same.1)

-- the map stays as it is
abbrev Stays : List Turn → Turn → Type 0
Stays front turn = MapGoes pairs TWO_TAKEN front TWO_TAKEN

no_amount : (plan : CommitPlan) → NeedsNone plan → amount_planned plan ≡ nothing
no_amount plan needs = λ i. record { inodes = needs.inodes i; blocks = needs.blocks i }

map_stays : HoldsFrom Stays [] BOTH_TURNS
map_stays =
    let begun : MapGoes pairs TWO_TAKEN [] TWO_TAKEN = no_turn_made in
    let one = one_turn_made [] (own_turn 0 0 act.Granted) TWO_TAKEN TWO_TAKEN begun (reserved_none (commit_plan FIRST_FLUSH) first_needs) in
    let two = one_turn_made _ (other_turn 0 0 act.Granted) TWO_TAKEN TWO_TAKEN one (reserved_none (commit_plan SECOND_FLUSH) second_needs) in
    let three = one_turn_made _ (own_turn 0 0 act.CutAt) TWO_TAKEN TWO_TAKEN two (λ none. no_amount (commit_plan FIRST_FLUSH) first_needs, refl) in
    let four = one_turn_made _ (other_turn 0 0 act.CutAt) TWO_TAKEN TWO_TAKEN three (λ none. no_amount (commit_plan SECOND_FLUSH) second_needs, refl) in
    let five = one_turn_made _ (other_turn 3 0 act.Opened) TWO_TAKEN TWO_TAKEN four refl in
    let six = one_turn_made _ (own_turn 4 0 act.Opened) TWO_TAKEN TWO_TAKEN five refl in
    let seven = one_turn_made _ (other_turn 5 0 act.Durable) TWO_TAKEN TWO_TAKEN six (ended_none SECOND_FLUSH second_needs) in
    (begun, (one, (two, (three, (four, (five, (six, (seven, tt))))))))

-- what is told at a place
abbrev Tells : List Turn → Turn → Type 0
Tells front turn = (at : PlayState) (volume : Volume) → Plays front at → IsVolumeAt TWO_KEPT at volume
    → TellsAct turn.act pairs (place_of (λ _. TWO_TAKEN) front at volume) turn

abbrev ReservesAt : ℕ → List Turn → PlayState → Volume → Type 0
ReservesAt stamp front at volume = ReservesTold pairs (place_of (λ _. TWO_TAKEN) front at volume) stamp

own_tells : Tells [] (own_turn 0 0 act.Granted)
own_tells at volume plays is =
    let nothing = nothing_yet [] at plays refl in
    subst (λ (s : PlayState). ReservesAt 0 [] s volume) (sym nothing)
    (subst (λ (v : Volume). ReservesAt 0 [] nothing_played v)
    (sym (first_volume TWO_KEPT at volume (ap (λ (s : PlayState). s.done) nothing) is)) (record {
      there = record {
        tells = by_look (sources_by FIRST_FLUSH) (core_tells FIRST_FLUSH first_told);
        apart = λ other one. absurd one;
      };
      left = TWO_TAKEN;
      reserved = reserved_none (commit_plan FIRST_FLUSH) first_needs;
    }))

other_tells : Tells (own_turn 0 0 act.Granted ∷ []) (other_turn 0 0 act.Granted)
other_tells at volume plays is =
    let front : List Turn = own_turn 0 0 act.Granted ∷ [] in
    let last = last_played front at plays [] (own_turn 0 0 act.Granted) refl in
    let waits : at ≡ record nothing_played { waiting = 0 ∷ [] } =
    last.did.later_is ∙ ap (λ (s : PlayState). record s { waiting = s.waiting ++ 0 ∷ [] }) (nothing_yet [] last.at last.plays refl) in
    subst (λ (s : PlayState). ReservesAt 1 front s volume) (sym waits)
    (subst (λ (v : Volume). ReservesAt 1 front (record nothing_played { waiting = 0 ∷ [] }) v)
    (sym (first_volume TWO_KEPT at volume (ap (λ (s : PlayState). s.done) waits) is)) (record {
      there = record {
        tells = by_look (sources_by SECOND_FLUSH) (core_tells SECOND_FLUSH second_told);
        apart = λ other one. elim one [
          | inl same ↦ subst (λ stamp. ArePairsApart (pair_by SECOND_FLUSH) (pairs stamp)) same apart
          | inr never ↦ absurd never
        ];
      };
      left = TWO_TAKEN;
      reserved = reserved_none (commit_plan SECOND_FLUSH) second_needs;
    }))

begins_tell : (front : List Turn) (turn : Turn) → turn.act ≡ act.CutAt → phase_of turn.stamp.0 front ≡ has_reserved → Tells front turn
begins_tell front turn did reserved at volume plays is =
    subst (λ (a : TurnAct). TellsAct a pairs (place_of (λ _. TWO_TAKEN) front at volume) turn) (sym did)
    (λ never. absurd (never ((fits_play front at plays).fits.reserved turn.stamp.0 reserved)))

all_tell : HoldsFrom Tells [] BOTH_TURNS
all_tell = (
  own_tells,
  (
    other_tells,
    (
      begins_tell _ (own_turn 0 0 act.CutAt) refl refl,
      (
        begins_tell _ (other_turn 0 0 act.CutAt) refl refl,
        (
          λ at volume plays is. tt,
          (λ at volume plays is. tt, (λ at volume plays is. tt, (λ at volume plays is. tt, tt))),
        ),
      ),
    ),
  ),
)

cores_tell : CoresTell TWO_MAPPED BOTH_TURNS
cores_tell = record {
  begins = record { stands = volume_stands; keeps = entries_kept; right = map_right; none = nothing_granted };
  core = of_each (λ (t : Turn). t.core.0 ≡ TWO_KEPT.cores t.stamp.0) BOTH_TURNS
      (refl, (refl, (refl, (refl, (refl, (refl, (refl, (refl, tt))))))));
  flush = of_each (λ (t : Turn). (bringing_under pairs t.stamp.0).flush ≡ flush_at t) BOTH_TURNS
      (refl, (refl, (refl, (refl, (refl, (refl, (refl, (refl, tt))))))));
  commit = of_each (λ (t : Turn). HasCommit (pairs t.stamp.0).commit.number t.act t.commit) BOTH_TURNS
      (inl refl, (inl refl, (refl, (refl, (refl, (refl, (refl, (refl, tt))))))));
  map_at = λ _. TWO_TAKEN;
  goes = λ front turn at volume place. holds_each Stays BOTH_TURNS [] map_stays front place.back turn place.whole;
  tells = λ front turn at volume place.
      holds_each Tells BOTH_TURNS [] all_tell front place.back turn place.whole at volume place.plays place.imagined;
}

pub are_two_cores : AreTwoCores
are_two_cores =
    let agrees = two_pens_are_kept TWO_KEPT two_reserve in
    record {
      first = record { tells = core_tells FIRST_FLUSH first_told; serves = serves FIRST_FLUSH first_told };
      second = record { tells = core_tells SECOND_FLUSH second_told; serves = serves SECOND_FLUSH second_told };
      told = cores_tell;
      fits = records_fit TWO_MAPPED BOTH_TURNS cores_tell;
      reserve = two_reserve;
      agrees = agrees;
      recorded = records_are_kept TWO_KEPT 0 0 0 BOTH_TURNS BOTH_PENS agrees;
    }
