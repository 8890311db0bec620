-- That the turns of a mount of many cores are recorded, as it ends.
use Rattle.std.specs.Prelude.{◌≡◌, ◌≤◌, List, ℕ, unwrap_or, option_map, slice_get}
use Rattle.space_map.specs.Space.{Space}
use Rattle.tree_laws.specs.declared.history.Entry.{Entry}
use Rattle.tree_laws.specs.declared.turns.Turn.{Turn}
use Rattle.tree_laws.specs.declared.turns.TurnAct.TheVariants as act
use Rattle.cut_laws.specs.Rules.{IsOneOf}
use Rattle.flush_laws.specs.Volume.{Volume}
use Rattle.turn_laws.specs.Recorded.{IsRecorded}
use Rattle.merge_laws.specs.Plays.{PlayState}
use Rattle.turn_ties.specs.Plans.{image_held}
use Rattle.book_laws.specs.Walk.{Bookkeeping, IsCalmPlace}
use Rattle.book_laws.specs.Along.{LackTold, MapGoes, TellsLack}
use Rattle.close_laws.specs.Maps.{past_of, Numbered}
use Rattle.end_laws.specs.Mount.{AreNamedAlong, MountEnd, MountEnds}

-- the core of the call with a stamp
abbrev pub core_at : List Entry → ℕ → ℕ
core_at history stamp = unwrap_or (option_map (λ (entry : Entry). entry.core.0) (slice_get history stamp)) 0

-- What the books of a mount's turns are kept from: the volume that it began with, what commits bring by the stamps of its fsyncs, and the core of each stamp.
abbrev pub kept_at : MountEnd → Numbered → Bookkeeping
kept_at at named = record {
  start = at.start;
  pairs = named.pairs;
  cores = core_at at.start.history;
}

-- A turn of a mount tells a shortage at a place where none has failed, beside the volume imagined there and a map that has gone along the turns up to there.
pub record TellsShort (at : MountEnd) (named : Numbered) (front : List Turn) (turn : Turn) (told : LackTold) : Type 0 where
  pub play : PlayState
  pub volume : Volume
  pub space : Space
  pub place : IsCalmPlace (kept_at at named) (past_of at.told).turns front turn play volume
  pub goes : MapGoes named.pairs at.told.first front space
  pub did : turn.act ≡ act.Short told.kind told.asked told.have

-- Each such turn's fsync has a plan for the volume, for which the map has too little of just that.
abbrev pub LacksAreTold : MountEnd → Numbered → Type 0
LacksAreTold at named = (front : List Turn) (turn : Turn) (told : LackTold) (short : TellsShort at named front turn told)
    → TellsLack short.volume short.space turn told

-- Then the turns of the mount are recorded, between its count of faults at the entry and a last one.
abbrev pub MountsAreRecorded : Type 0 → Type 0
MountsAreRecorded D = (at : MountEnd) (named : Numbered) (entry_faults most : ℕ) → MountEnds D at → AreNamedAlong at named → LacksAreTold at named
    → entry_faults ≤ at.told.before → ((turn : Turn) → IsOneOf (past_of at.told).turns turn → turn.faults ≤ most)
    → IsRecorded at.start.first at.start.history (image_held at.start) entry_faults most (past_of at.told).turns
