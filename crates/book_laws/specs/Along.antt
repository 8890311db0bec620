-- A map of free space along the record of turns.
use Rattle.std.specs.Prelude.{◌++◌, ◌∷◌, ◌==◌, ◌≡◌, ℕ, List, [], filter, not, map, None}
use Rattle.sfs_base.specs.declared.numbers.SpaceKind.{SpaceKind}
use Rattle.fmt_journal.specs.declared.tx.Tx.{Tx}
use Rattle.space_map.specs.Space.{Space}
use Rattle.tree_laws.specs.declared.turns.TurnAct.{TurnAct}
use Rattle.tree_laws.specs.declared.turns.Turn.{Turn}
use Rattle.tree_laws.specs.declared.turns.TurnAct.TheVariants as act
use Rattle.disk_nodes.specs.declared.old.OldEntry.{OldEntry}
use Rattle.flush_laws.specs.Ready.{KeepsEntries}
use Rattle.flush_laws.specs.Volume.{Volume}
use Rattle.turn_laws.specs.Ways.{own_turns}
use Rattle.turn_laws.specs.Need.{nothing}
use Rattle.merge_laws.specs.Plays.{PlayState, Plays}
use Rattle.space_laws.specs.Map.{WasUsed, WasReturned, IsMapOf}
use Rattle.space_laws.specs.Laws.{HasNoneGranted}
use Rattle.volume_laws.specs.Volume.{IsVolumeStanding}
use Rattle.turn_ties.specs.Plans.{amount_planned, Planning}
use Rattle.book_laws.specs.Brings.{Bringing}
use Rattle.book_laws.specs.Imagined.{Imagines, entries_once}
use Rattle.book_laws.specs.Pairs.{Pair, bringing_under, PairReserves}
use Rattle.book_laws.specs.Walk.{Bookkeeping, brought_under, grants_in, open_stamps, ReservesThere, LacksThere}
use Rattle.book_laws.specs.Midway.{PlansTurn}
use Rattle.book_laws.specs.Out.{GrantOut, WasReserved, Beside, IsMapWithOut, grant_out, IsLacking}

-- the stamps of the fsyncs for which something is reserved behind an act of one: one that reserves joins them, and one that gives back or is durable leaves
abbrev pub stamps_by : TurnAct → ℕ → List ℕ → List ℕ
stamps_by act.Granted stamp stamps = stamps ++ stamp ∷ []
stamps_by act.GivenBack stamp stamps = filter (λ other. not (other == stamp)) stamps
stamps_by act.Durable stamp stamps = filter (λ other. not (other == stamp)) stamps
stamps_by _ stamp stamps = stamps

-- those behind turns, from those that were before them
abbrev pub stamps_after : List ℕ → List Turn → List ℕ
stamps_after stamps [] = stamps
stamps_after stamps (turn ∷ turns) = stamps_after (stamps_by turn.act turn.stamp.0 stamps) turns

-- the grant of the fsync with a stamp
abbrev pub out_under : (ℕ → Pair) → ℕ → GrantOut
out_under pairs stamp = record { stamp = stamp; numbers = (bringing_under pairs stamp).grant }

-- the grants of the fsyncs with these stamps
abbrev pub outs_under : (ℕ → Pair) → List ℕ → List GrantOut
outs_under pairs stamps = map (out_under pairs) stamps

-- the grants that are out behind the first turns of a record
abbrev pub outs_in : (ℕ → Pair) → List Turn → List GrantOut
outs_in pairs turns = outs_under pairs (stamps_after [] turns)

-- A grant has ended with the commit of what an fsync brings, by some transaction.
pub record EndsBringing (one : Bringing) (old new : Space) : Type 0 where
  pub tx : Tx
  pub used : WasUsed one.plan tx old one.grant new

-- What becomes of a map with an act of the fsync that has this stamp: one that reserves takes its grant, one that gives back returns it, and with a
-- durable commit it has ended; a commit that begins with its fsync's first turn needs nothing; and all others but these leave the map as it is.
abbrev pub MapDoes : TurnAct → (ℕ → Pair) → List Turn → ℕ → Space → Space → Type 0
MapDoes act.Granted pairs front stamp old new = WasReserved (bringing_under pairs stamp).plan old (bringing_under pairs stamp).grant new
MapDoes act.GivenBack pairs front stamp old new = WasReturned old (bringing_under pairs stamp).grant new
MapDoes act.Durable pairs front stamp old new = EndsBringing (bringing_under pairs stamp) old new
MapDoes act.CutAt pairs front stamp old new = (own_turns stamp front ≡ [] → amount_planned (bringing_under pairs stamp).plan ≡ nothing) × (new ≡ old)
MapDoes _ pairs front stamp old new = new ≡ old

-- A map of free space goes along a record: turn by turn it becomes what the turn makes of it.
pub data MapGoes (pairs : ℕ → Pair) (first : Space) : List Turn → Space → Type 0 where
  no_turn_made : MapGoes pairs first [] first
  one_turn_made : (front : List Turn) (turn : Turn) (old new : Space) → MapGoes pairs first front old → MapDoes turn.act pairs front turn.stamp.0 old new
      → MapGoes pairs first (front ++ turn ∷ []) new

-- What a map is kept from along a record: the first volume with the pairs by stamp, the entries that memory keeps of that volume, and the first map.
pub record MapKeeping : Type 0 where
  pub kept : Bookkeeping
  pub entries : List OldEntry
  pub first : Space

-- The first volume stands, memory keeps its entries, and the first map is right beside them and has nothing granted.
pub record BeginsMap (keeping : MapKeeping) : Type 0 where
  pub stands : IsVolumeStanding keeping.kept.start
  pub keeps : KeepsEntries keeping.kept.start.num keeping.kept.start.parts keeping.entries
  pub right : IsMapOf keeping.kept.start.layout keeping.entries keeping.first
  pub none : HasNoneGranted keeping.first

-- A place of a record: the turns up to there, what fsyncs have done behind them, the volume that is imagined there, and the map.
pub record MapPlace : Type 0 where
  pub front : List Turn
  pub at : PlayState
  pub volume : Volume
  pub space : Space

-- None has failed there, the volume is the one imagined with those that are done, and the map is the one that has gone along up to there.
pub record IsMapPlace (keeping : MapKeeping) (place : MapPlace) : Type 0 where
  pub begins : BeginsMap keeping
  pub plays : Plays place.front place.at
  pub calm : place.at.failed ≡ None
  pub imagines : Imagines keeping.kept.start (brought_under keeping.kept.pairs place.at.done) place.volume
  pub goes : MapGoes keeping.kept.pairs keeping.first place.front place.space

-- what stands beside the map there: the volume, what those that are done have left of the entries, and the grants that are out
abbrev pub beside_at : MapKeeping → MapPlace → Beside
beside_at keeping place = record {
  volume = place.volume;
  entries = entries_once (brought_under keeping.kept.pairs place.at.done) keeping.entries;
  outs = outs_in keeping.kept.pairs place.front;
}

-- The map is right there with exactly these grants out, which are those that the books of the place have.
pub record IsMapAt (keeping : MapKeeping) (place : MapPlace) : Type 0 where
  pub right : IsMapWithOut (beside_at keeping place) place.space
  pub grants : map grant_out (outs_in keeping.kept.pairs place.front) ≡ grants_in keeping.kept.pairs place.front

-- So it is at each such place.
abbrev pub MapsGoAlong : Type 0
MapsGoAlong = (keeping : MapKeeping) (place : MapPlace) → IsMapPlace keeping place → IsMapAt keeping place

-- So a turn may reserve there whose pair may be open, and whose grant is taken from the map.
abbrev pub PlacesReserve : Type 0
PlacesReserve = (keeping : MapKeeping) (place : MapPlace) (turn : Turn) (new : Space) → IsMapPlace keeping place
    → PairReserves keeping.kept.pairs place.volume place.at.done (open_stamps place.at) turn.stamp.0
    → MapDoes act.Granted keeping.kept.pairs place.front turn.stamp.0 place.space new
    → ReservesThere keeping.kept (grants_in keeping.kept.pairs place.front) place.at place.volume turn

-- The shortage that a turn tells: the kind, how many were asked for, and how many there were.
pub record LackTold : Type 0 where
  pub kind : SpaceKind
  pub asked : ℕ
  pub have : ℕ

-- The fsync of a turn has a plan for a volume, for which a map has too little.
pub record TellsLack (volume : Volume) (space : Space) (turn : Turn) (told : LackTold) : Type 0 where
  pub planning : Planning
  pub plans : PlansTurn volume planning turn
  pub lacks : IsLacking space planning.plan told.kind told.asked told.have

-- And a turn lacks room there that tells such a shortage.
abbrev pub PlacesLack : Type 0
PlacesLack = (keeping : MapKeeping) (place : MapPlace) (turn : Turn) (told : LackTold) → IsMapPlace keeping place
    → TellsLack place.volume place.space turn told
    → LacksThere (grants_in keeping.kept.pairs place.front) place.volume turn told.kind told.asked told.have
