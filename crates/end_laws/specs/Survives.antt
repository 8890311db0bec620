-- What a mount of many cores comes to: what a crash leaves of it, what a read gives at its end, and what its turns tell.
use Rattle.std.specs.Prelude.{◌≤◌, ℕ, map}
use Rattle.sfs_dev.specs.Disk.{View}
use Rattle.tree_laws.specs.declared.turns.Turn.{Turn}
use Rattle.cut_laws.specs.Rules.{IsOneOf}
use Rattle.crash_laws.specs.Survives.{SurvivesAll, ReadsBack}
use Rattle.merge_laws.specs.Plays.{PensMerge}
use Rattle.merge_laws.specs.LeftByTurns.{TellInTime, SurvivesByTurns, ReadsByTurns}
use Rattle.merge_laws.specs.Pens.{AgreesAll}
use Rattle.slot_image_laws.specs.Run.{RunFits, BeganWith}
use Rattle.close_laws.specs.Maps.{past_of}
use Rattle.close_laws.specs.Close.{TellsAll}
use Rattle.flush_agrees.specs.Closing.{pen_fsyncs}
use Rattle.end_laws.specs.Mount.{MountEnd, MountEnds}

-- What the turns of a mount tell: all cores agree with their pens on them, each with those of its fsyncs that have some; so they are what fsyncs do, each of
-- which goes one of the ways with its answer; and they tell of answers and acknowledgements, at moments that don't fall.
pub record TurnsEnd (at : MountEnd) (most : ℕ) : Type 0 where
  pub agrees : AgreesAll at.start.first at.start.history at.told.before most (past_of at.told).turns (map pen_fsyncs at.fsyncs)
  pub merge : PensMerge at.start.first at.start.history (past_of at.told).turns
  pub tell : TellInTime at.start.history (past_of at.told).turns

-- So they do where no count of faults is above a last one.
abbrev pub TurnsOfMountsEnd : Type 0 → Type 0
TurnsOfMountsEnd D = (at : MountEnd) (most : ℕ) → MountEnds D at → ((turn : Turn) → IsOneOf (past_of at.told).turns turn → turn.faults ≤ most)
    → TurnsEnd at most

-- The disk of a mount that has ended: it is in the run that the labels tell, from images of the first parts; it tells what a read gives; and no count of faults
-- is above a last one.
pub record DiskEnds (at : MountEnd) (disk : View) : Type 0 where
  pub run : RunFits at.told.layout at.told.moment (past_of at.told) disk
  pub began : BeganWith at.told.layout at.start.parts at.told.moment disk
  pub tells : TellsAll disk
  pub most : ℕ
  pub few : (turn : Turn) → IsOneOf (past_of at.told).turns turn → turn.faults ≤ most

-- Such a mount survives each crash since it began: what is left is read as the tree at a closed cut that covers what was acknowledged by then; and a read at
-- the end gives exactly the durable fsyncs. Both are so in the order of turns too, which tell what fsyncs did.
pub record MountSurvives (share : ℕ) (at : MountEnd) (disk : View) (ends : DiskEnds at disk) : Type 0 where
  pub survives : SurvivesAll share at.told.moment at.start.first at.start.history disk
  pub reads : ReadsBack share at.start.first at.start.history disk
  pub survives_by_turns : SurvivesByTurns share at.told.moment at.start.first at.start.history (past_of at.told).turns disk
  pub reads_by_turns : ReadsByTurns share at.start.first at.start.history (past_of at.told).turns disk
  pub turns : TurnsEnd at ends.most

-- So it is of each mount as it ends.
abbrev pub MountsSurvive : Type 0 → View → Type 0
MountsSurvive D disk = (share : ℕ) (at : MountEnd) → MountEnds D at → (ends : DiskEnds at disk) → MountSurvives share at disk ends
