-- The walk of the books along a record: what is known at each place of it, and what is asked of each turn.
use Rattle.std.specs.FinMap.{get, empty}
use Rattle.std.specs.Prelude.{◌≡◌, ◌∷◌, ◌++◌, ℕ, List, [], filter, map, None, is_some}
use Rattle.sfs_base.specs.declared.numbers.SpaceKind.{SpaceKind}
use Rattle.tree_laws.specs.declared.turns.Turn.{Turn}
use Rattle.tree_laws.specs.declared.turns.TurnAct.{TurnAct}
use Rattle.tree_laws.specs.declared.turns.TurnAct.TheVariants as act
use Rattle.cut_laws.specs.Machine.{Flight}
use Rattle.cut_laws.specs.Rules.{IsOneOf}
use Rattle.beside_laws.specs.Steps.{Flown, flight_of_flown}
use Rattle.flush_laws.specs.Volume.{Volume}
use Rattle.turn_laws.specs.Books.{Grant, Waiting, Books, books_of, flush_at, free_in, least_open, FitsFree, IsShortOf, is_other_grant, AreTurns}
use Rattle.turn_laws.specs.Need.{nothing}
use Rattle.turn_laws.specs.Ways.{HasCommit}
use Rattle.merge_laws.specs.Plays.{Aloft, PlayState, Plays}
use Rattle.volume_laws.specs.Volume.{IsVolumeStanding}
use Rattle.turn_ties.specs.Plans.{image_held, Planning, amount_planned}
use Rattle.book_laws.specs.Brings.{Bringing}
use Rattle.book_laws.specs.Imagined.{Imagines}
use Rattle.book_laws.specs.Midway.{books_beside, books_granted, PlansTurn}
use Rattle.book_laws.specs.Pairs.{Pair, bringing_under, PairsBeside, PairReserves}

-- What the books of a record are kept from: the volume that it begins with, and by the stamp of each fsync its commit with what it brings, and its
-- core.
pub record Bookkeeping : Type 0 where
  pub start : Volume
  pub pairs : ℕ → Pair
  pub cores : ℕ → ℕ

-- the fsyncs that are open: those that wait, and behind them those whose commits are aloft
abbrev pub open_stamps : PlayState → List ℕ
open_stamps at = at.waiting ++ map (λ flight. flight.stamp) at.aloft

-- a commit aloft, as it flies
abbrev pub flown_by : (ℕ → Pair) → Aloft → Flown
flown_by pairs one = record { commit = (pairs one.stamp).commit; opened = one.opened }

-- the flights of those aloft
abbrev pub flights_by : (ℕ → Pair) → List Aloft → List Flight
flights_by pairs aloft = map flight_of_flown (map (flown_by pairs) aloft)

-- an fsync with a stamp, as one that waits
abbrev pub waits_at : (ℕ → ℕ) → ℕ → Waiting
waits_at cores stamp = record { core = cores stamp; stamp = stamp }

-- what is reserved for the fsync with a stamp: what its plan needs, and the inodes that it was granted
abbrev pub grant_at : (ℕ → Pair) → ℕ → Grant
grant_at pairs stamp =
    record { stamp = stamp; need = amount_planned (bringing_under pairs stamp).plan; inodes = (bringing_under pairs stamp).grant.inodes }

-- what is reserved behind an act of an fsync: one that reserves adds its own, one that gives back or is durable takes it away
abbrev pub grants_by : (ℕ → Pair) → TurnAct → ℕ → List Grant → List Grant
grants_by pairs act.Granted stamp grants = grants ++ grant_at pairs stamp ∷ []
grants_by pairs act.GivenBack stamp grants = filter (is_other_grant stamp) grants
grants_by pairs act.Durable stamp grants = filter (is_other_grant stamp) grants
grants_by pairs _ stamp grants = grants

-- what is reserved behind turns, from what was before them
abbrev pub grants_after : (ℕ → Pair) → List Grant → List Turn → List Grant
grants_after pairs grants [] = grants
grants_after pairs grants (turn ∷ turns) = grants_after pairs (grants_by pairs turn.act turn.stamp.0 grants) turns

-- what is reserved behind the first turns of a record
abbrev pub grants_in : (ℕ → Pair) → List Turn → List Grant
grants_in pairs turns = grants_after pairs [] turns

-- what the fsyncs with these stamps bring
abbrev pub brought_under : (ℕ → Pair) → List ℕ → List Bringing
brought_under pairs stamps = map (bringing_under pairs) stamps

-- A volume is the one imagined where fsyncs have done this, of which none has failed: it stands; it is the first one once those that are done have
-- brought what they bring, in their order; and the commits that are done and open stand beside it.
pub record IsVolumeAt (kept : Bookkeeping) (at : PlayState) (volume : Volume) : Type 0 where
  pub stands : IsVolumeStanding volume
  pub imagines : Imagines kept.start (brought_under kept.pairs at.done) volume
  pub beside : PairsBeside kept.pairs at.done (open_stamps at) volume

-- A turn may reserve there: its fsync may be open beside those that are, what its plan needs fits, and its inodes are the least ones.
pub record ReservesThere (kept : Bookkeeping) (grants : List Grant) (at : PlayState) (volume : Volume) (turn : Turn) : Type 0 where
  pub pair : PairReserves kept.pairs volume at.done (open_stamps at) turn.stamp.0
  pub fits : FitsFree (amount_planned (bringing_under kept.pairs turn.stamp.0).plan) (free_in (books_granted volume grants))
  pub least : (bringing_under kept.pairs turn.stamp.0).grant.inodes
      ≡ least_open (books_granted volume grants) (amount_planned (bringing_under kept.pairs turn.stamp.0).plan).inodes

-- A turn lacks room there: its fsync has a plan, which needs more than is free.
pub record LacksThere (grants : List Grant) (volume : Volume) (turn : Turn) (kind : SpaceKind) (asked have : ℕ) : Type 0 where
  pub planning : Planning
  pub plans : PlansTurn volume planning turn
  pub short : IsShortOf (amount_planned planning.plan) (free_in (books_granted volume grants)) kind asked have

-- A turn may begin a commit there with nothing reserved: its fsync may be open beside those that are, and its plan needs nothing.
pub record BeginsThere (kept : Bookkeeping) (at : PlayState) (volume : Volume) (turn : Turn) : Type 0 where
  pub pair : PairReserves kept.pairs volume at.done (open_stamps at) turn.stamp.0
  pub no_need : amount_planned (bringing_under kept.pairs turn.stamp.0).plan ≡ nothing

-- what a turn asks of a place, by its act: one that waits begins its commit as it reserved it, and all others but these ask nothing
abbrev pub FitsAct : TurnAct → Bookkeeping → List Grant → PlayState → Volume → Turn → Type 0
FitsAct act.Granted kept grants at volume turn = ReservesThere kept grants at volume turn
FitsAct (act.Short kind asked have) kept grants at volume turn = LacksThere grants volume turn kind asked have
FitsAct act.CutAt kept grants at volume turn = (IsOneOf at.waiting turn.stamp.0 → ⊥) → BeginsThere kept at volume turn
FitsAct _ kept grants at volume turn = Unit {0}

-- A place of a record before a turn, while none has failed: what fsyncs have done up to there, and the volume imagined.
pub record IsCalmPlace (kept : Bookkeeping) (turns front : List Turn) (turn : Turn) (at : PlayState) (volume : Volume) : Type 0 where
  pub back : List Turn
  pub whole : turns ≡ front ++ turn ∷ back
  pub plays : Plays front at
  pub calm : at.failed ≡ None
  pub imagined : IsVolumeAt kept at volume

-- A record fits what its books are kept from: each turn is of its fsync's core, of the fsync whose commit stands under its stamp, and has that
-- commit's number; and each asks what holds at its place.
pub record FitsRecord (kept : Bookkeeping) (turns : List Turn) : Type 0 where
  pub core : (turn : Turn) → IsOneOf turns turn → turn.core.0 ≡ kept.cores turn.stamp.0
  pub flush : (turn : Turn) → IsOneOf turns turn → (bringing_under kept.pairs turn.stamp.0).flush ≡ flush_at turn
  pub commit : (turn : Turn) → IsOneOf turns turn → HasCommit (kept.pairs turn.stamp.0).commit.number turn.act turn.commit
  pub fits : (front : List Turn) (turn : Turn) (at : PlayState) (volume : Volume) → IsCalmPlace kept turns front turn at volume
      → FitsAct turn.act kept (grants_in kept.pairs front) at volume turn

-- A walk may begin with a volume: it stands, its cut is 0, and the nodes of its mount's tree have an inode.
pub record BeginsWalk (start : Volume) : Type 0 where
  pub stands : IsVolumeStanding start
  pub cut : start.cut ≡ empty
  pub inodes : start.inodes ≡ (λ node. is_some (get start.first.nodes node))

-- the books before the first turn
abbrev pub books_begun : Volume → Books
books_begun start = books_of start.first start.history (image_held start)

-- What is known behind some turns of which none has failed: the volume imagined there, and the numbers used so far, with which the books are these.
pub record IsCalmAt (kept : Bookkeeping) (turns : List Turn) (at : PlayState) (books : Books) : Type 0 where
  pub volume : Volume
  pub imagined : IsVolumeAt kept at volume
  pub used : List ℕ
  pub books_are : books ≡ books_beside (record {
    volume = volume;
    flights = flights_by kept.pairs at.aloft;
    used = used;
    grants = grants_in kept.pairs turns;
    waiting = map (waits_at kept.cores) at.waiting;
  })

-- The turns so far are turns in the sense of the books: those that wait are the ones that the play has waiting, and the failure is the play's; and
-- where none has failed, it is calm.
pub record IsBooked (kept : Bookkeeping) (before most : ℕ) (turns : List Turn) (at : PlayState) : Type 0 where
  pub books : Books
  pub are : AreTurns before most (books_begun kept.start) turns books
  pub waiting : books.waiting ≡ map (waits_at kept.cores) at.waiting
  pub failed : books.failed ≡ at.failed
  pub calm : at.failed ≡ None → IsCalmAt kept turns at books
