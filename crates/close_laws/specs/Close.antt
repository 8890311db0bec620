-- What a crash leaves of a mount of many cores, and what a read gives at its end.
use Rattle.crash_laws.specs.Survives.{SurvivesAll, ReadsBack}
use Rattle.slot_laws.specs.Laws.{AreOfCores, IsPenOf}
use Rattle.merge_laws.specs.Pens.{FsyncTurns, PenAgrees}
use Rattle.cut_laws.specs.Rules.{IsOneOf}
use Rattle.tree_laws.specs.declared.turns.Turn.{Turn}
use Rattle.std.specs.Prelude.{◌≤◌, length, slice_get}
use Rattle.std.specs.Prelude.{◌≡◌, List, ℕ, Some, []}
use Rattle.sfs_dev.specs.Disk.{View}
use Rattle.sfs_dev.specs.Run.{CountsOn}
use Rattle.disk_nodes.specs.declared.old.OldEntry.{OldEntry}
use Rattle.flush_laws.specs.Volume.{Volume}
use Rattle.merge_laws.specs.LeftByTurns.{TellInTime, SurvivesByTurns, ReadsByTurns}
use Rattle.slot_image_laws.specs.Run.{KeepsLaws, RunFits, BeganWith}
use Rattle.close_laws.specs.Maps.{Telling, past_of, Numbered}
use Rattle.close_laws.specs.Beside.{IsToldBeside}
use Rattle.close_laws.specs.Fronts.{AreTurnsOf}

-- A disk tells what a read gives, has counted every call, and keeps what each disk does.
pub record TellsAll (disk : View) : Type 0 where
  pub content : List ℕ
  pub tells : disk.content ≡ Some content
  pub counts : CountsOn disk
  pub laws : KeepsLaws disk

-- What is known where a mount ends: the labels were told beside what commits bring, from a volume on whose disk no fsync is yet; the turns that they make are of
-- those fsyncs; and the disk is in the run that the labels tell, from images of the first parts.
pub record EndsMount (start : Volume) (entries : List OldEntry) (named : Numbered) (told : Telling) (disk : View) : Type 0 where
  pub labels : IsToldBeside start entries named told
  pub none : start.flushes ≡ []
  pub turns : AreTurnsOf named (past_of told).turns
  pub run : RunFits told.layout told.moment (past_of told) disk
  pub began : BeganWith told.layout start.parts told.moment disk
  pub tells : TellsAll disk

-- Then, where the turns tell of answers and acknowledgements, each image that a crash may leave is read as the tree at a closed cut that covers what was
-- acknowledged, and a read at the end gives exactly the durable fsyncs: slots that are still open do no harm.
abbrev pub TurnsClose : View → Type 0
TurnsClose disk = (share : ℕ) (start : Volume) (entries : List OldEntry) (named : Numbered) (told : Telling) → EndsMount start entries named told disk
    → TellInTime start.history (past_of told).turns
    → SurvivesByTurns share told.moment start.first start.history (past_of told).turns disk
    × ReadsByTurns share start.first start.history (past_of told).turns disk

-- Each core is at rest with its pen and agrees with it, each event is of a core, and no count of faults is above the last one.
pub record PensAgree (start : Volume) (told : Telling) (pens : List (List FsyncTurns)) : Type 0 where
  pub most : ℕ
  pub cores : length pens ≡ length start.first.made
  pub own : AreOfCores (length pens) told.log
  pub is : (core : ℕ) (fsyncs : List FsyncTurns) → slice_get pens core ≡ Some fsyncs → IsPenOf core told.log fsyncs
  pub agrees : (core : ℕ) (fsyncs : List FsyncTurns) → slice_get pens core ≡ Some fsyncs
      → PenAgrees start.first start.history (past_of told).turns core fsyncs
  pub few : (turn : Turn) → IsOneOf (past_of told).turns turn → turn.faults ≤ most

-- So a mount of many cores that ends with its pens survives each crash, and is read back at its end.
abbrev pub TableMountsClose : View → Type 0
TableMountsClose disk = (share : ℕ) (start : Volume) (entries : List OldEntry) (named : Numbered) (told : Telling) (pens : List (List FsyncTurns))
    → EndsMount start entries named told disk → PensAgree start told pens
    → SurvivesAll share told.moment start.first start.history disk × ReadsBack share start.first start.history disk
