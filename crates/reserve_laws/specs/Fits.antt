-- That a record fits what its books are kept from, by what cores tell at the places of it.
use Rattle.std.specs.Prelude.{◌≡◌, List, ℕ, map, []}
use Rattle.space_map.specs.Space.{Space}
use Rattle.tree_laws.specs.declared.turns.TurnAct.TheVariants as act
use Rattle.tree_laws.specs.declared.turns.TurnAct.{TurnAct}
use Rattle.tree_laws.specs.declared.turns.Turn.{Turn}
use Rattle.cut_laws.specs.Rules.{IsOneOf}
use Rattle.beside_laws.specs.Commits.{CoreCommit}
use Rattle.beside_laws.specs.Progress.{IsLater}
use Rattle.beside_laws.specs.OwnFile.{own_commit}
use Rattle.flush_laws.specs.Volume.{Volume}
use Rattle.turn_laws.specs.Need.{nothing}
use Rattle.turn_laws.specs.Books.{flush_at}
use Rattle.turn_laws.specs.Ways.{HasCommit}
use Rattle.merge_laws.specs.Plays.{PlayState}
use Rattle.plan_laws.specs.Plans.{Sources}
use Rattle.turn_ties.specs.Plans.{amount_planned}
use Rattle.book_laws.specs.Pairs.{Pair, run_with, commit_under, ArePairsApart, PairReserves, bringing_under}
use Rattle.book_laws.specs.Walk.{open_stamps, IsCalmPlace, FitsRecord}
use Rattle.book_laws.specs.Along.{MapPlace, MapDoes, TellsLack, MapKeeping, BeginsMap, MapGoes}
use Rattle.reserve_laws.specs.Looks.{CoreTells, ServesPair}
use Rattle.reserve_laws.specs.OwnFile.{OwnMaking, MakesOwnFile, own_pair}

-- A core tells of its pair, by what it gathered or by its own file: then its commit is later than those that are done.
pub data TellsPair (volume : Volume) (done : List CoreCommit) (pair : Pair) : Type 0 where
  by_look : (from : Sources) → CoreTells volume done pair from → TellsPair volume done pair
  by_own : (own : OwnMaking) → MakesOwnFile volume done own → IsLater done (own_commit (run_with volume done) own.flush own.numbers)
      → pair ≡ own_pair volume done own pair.one.grant → TellsPair volume done pair

-- The core of a stamp tells of its pair, whose grant serves its plan and which is apart from those that are open.
pub record ToldBeside (pairs : ℕ → Pair) (volume : Volume) (done open_ones : List ℕ) (stamp : ℕ) : Type 0 where
  pub tells : TellsPair volume (map (commit_under pairs) done) (pairs stamp)
  pub serves : ServesPair volume (pairs stamp)
  pub apart : (other : ℕ) → IsOneOf open_ones other → ArePairsApart (pairs stamp) (pairs other)

-- So an fsync may be open beside those that are.
abbrev pub ToldReserve : Type 0
ToldReserve = (pairs : ℕ → Pair) (volume : Volume) (done open_ones : List ℕ) (stamp : ℕ) → ToldBeside pairs volume done open_ones stamp
    → PairReserves pairs volume done open_ones stamp

-- What a core tells at a place of a record of its pair: how it was made, and that it is apart from those that are open.
pub record TellsThere (pairs : ℕ → Pair) (place : MapPlace) (stamp : ℕ) : Type 0 where
  pub tells : TellsPair place.volume (map (commit_under pairs) place.at.done) (pairs stamp)
  pub apart : (other : ℕ) → IsOneOf (open_stamps place.at) other → ArePairsApart (pairs stamp) (pairs other)

-- It tells so, and what its plan needs is reserved from the map.
pub record ReservesTold (pairs : ℕ → Pair) (place : MapPlace) (stamp : ℕ) : Type 0 where
  pub there : TellsThere pairs place stamp
  pub left : Space
  pub reserved : MapDoes act.Granted pairs place.front stamp place.space left

-- It tells so, and its plan needs nothing and was granted nothing.
pub record BeginsTold (pairs : ℕ → Pair) (place : MapPlace) (stamp : ℕ) : Type 0 where
  pub there : TellsThere pairs place stamp
  pub no_need : amount_planned (bringing_under pairs stamp).plan ≡ nothing
  pub no_grant : (bringing_under pairs stamp).grant ≡ record { inodes = []; blocks = [] }

-- what is told at a place as a turn comes, by its act: a commit that waits begins as it reserved, and all others but these tell nothing
abbrev pub TellsAct : TurnAct → (ℕ → Pair) → MapPlace → Turn → Type 0
TellsAct act.Granted pairs place turn = ReservesTold pairs place turn.stamp.0
TellsAct (act.Short kind asked have) pairs place turn =
    TellsLack place.volume place.space turn (record { kind = kind; asked = asked; have = have })
TellsAct act.CutAt pairs place turn = (IsOneOf place.at.waiting turn.stamp.0 → ⊥) → BeginsTold pairs place turn.stamp.0
TellsAct _ pairs place turn = Unit {0}

-- the place of a record behind the first turns, with the volume and the map there
abbrev pub place_of : (List Turn → Space) → List Turn → PlayState → Volume → MapPlace
place_of map_at front at volume = record { front = front; at = at; volume = volume; space = map_at front }

-- Cores tell what they do along a record: each turn is of its fsync and its core and has its commit's number; and at each place where none has failed
-- the map has gone along the record up to there, and what the turn's act asks is told.
pub record CoresTell (keeping : MapKeeping) (turns : List Turn) : Type 0 where
  pub begins : BeginsMap keeping
  pub core : (turn : Turn) → IsOneOf turns turn → turn.core.0 ≡ keeping.kept.cores turn.stamp.0
  pub flush : (turn : Turn) → IsOneOf turns turn → (bringing_under keeping.kept.pairs turn.stamp.0).flush ≡ flush_at turn
  pub commit : (turn : Turn) → IsOneOf turns turn → HasCommit (keeping.kept.pairs turn.stamp.0).commit.number turn.act turn.commit
  pub map_at : List Turn → Space
  pub goes : (front : List Turn) (turn : Turn) (at : PlayState) (volume : Volume) → IsCalmPlace keeping.kept turns front turn at volume
      → MapGoes keeping.kept.pairs keeping.first front (map_at front)
  pub tells : (front : List Turn) (turn : Turn) (at : PlayState) (volume : Volume) → IsCalmPlace keeping.kept turns front turn at volume
      → TellsAct turn.act keeping.kept.pairs (place_of map_at front at volume) turn

-- Then the record fits what its books are kept from.
abbrev pub RecordsFit : Type 0
RecordsFit = (keeping : MapKeeping) (turns : List Turn) → CoresTell keeping turns → FitsRecord keeping.kept turns
