-- The end of a mount by what its pens told turn by turn at the box.
use Rattle.std.specs.Prelude.{◌≡◌, ◌≤◌, ℕ, List, [], length, slice_get, Some, flat_map}
use Rattle.sfs_dev.specs.Disk.{View}
use Rattle.tree_laws.specs.declared.turns.Turn.{Turn}
use Rattle.disk_nodes.specs.declared.old.OldEntry.{OldEntry}
use Rattle.cut_laws.specs.Rules.{IsOneOf}
use Rattle.crash_laws.specs.Survives.{SurvivesAll, ReadsBack}
use Rattle.flush_laws.specs.Volume.{Volume}
use Rattle.turn_laws.specs.Books.{flush_at}
use Rattle.merge_laws.specs.Pens.{FsyncTurns, PenAgrees}
use Rattle.book_laws.specs.Pairs.{bringing_under}
use Rattle.stamp_table.specs.Events.{event_core}
use Rattle.stamp_table.specs.Rule.{entries_by}
use Rattle.slot_laws.specs.Laws.{IsAtRest, AreOfCores}
use Rattle.slot_laws.specs.Labels.{own_from, nothing_told}
use Rattle.slot_laws.specs.Telling.{turns_in}
use Rattle.slot_image_laws.specs.Run.{RunFits, BeganWith}
use Rattle.close_laws.specs.Maps.{Numbered, Telling, past_of}
use Rattle.close_laws.specs.PenLabels.{PensTell, PensTellBeside}
use Rattle.close_laws.specs.Fronts.{AreTurnsOf}
use Rattle.close_laws.specs.Close.{TellsAll}

-- Each core is at rest with its pen, and each turn that the pen told is of the fsync whose commit stands under its stamp.
pub record PensRest (named : Numbered) (told : Telling) (pens : PensTell named told) : Type 0 where
  pub rests : (core : ℕ) → IsAtRest (own_from (entries_by event_core core told.log) nothing_told)
  pub brought : (core : ℕ) (turn : Turn) → IsOneOf (turns_in (pens.pens core).turns) turn → (bringing_under named.pairs turn.stamp.0).flush ≡ flush_at turn

-- Then each turn of the record is.
abbrev pub PensAreTurnsOf : Type 0
PensAreTurnsOf = (named : Numbered) (told : Telling) (pens : PensTell named told) → PensRest named told pens → AreTurnsOf named (past_of told).turns

-- What is known where a mount ends, by its pens: what they told fits what commits bring, from a volume on whose disk no fsync is yet; each is at rest; and the
-- disk is in the run that they tell, from images of the first parts.
pub record PensEndMount (start : Volume) (entries : List OldEntry) (named : Numbered) (told : Telling) (disk : View) : Type 0 where
  pub beside : PensTellBeside start entries named told
  pub none : start.flushes ≡ []
  pub rest : PensRest named told beside.pens
  pub run : RunFits told.layout told.moment (past_of told) disk
  pub began : BeganWith told.layout start.parts told.moment disk
  pub tells : TellsAll disk

-- What cores and their pens agree on then: the turns that a pen told at the box are those of its fsyncs, in their order.
pub record FsyncsAgree (start : Volume) (entries : List OldEntry) (named : Numbered) (told : Telling) (disk : View)
    (ends : PensEndMount start entries named told disk) (pens : List (List FsyncTurns)) : Type 0 where
  pub most : ℕ
  pub cores : length pens ≡ length start.first.made
  pub own : AreOfCores (length pens) told.log
  pub turns : (core : ℕ) (fsyncs : List FsyncTurns) → slice_get pens core ≡ Some fsyncs
      → turns_in (ends.beside.pens.pens core).turns ≡ flat_map (λ one. one.turns) fsyncs
  pub agrees : (core : ℕ) (fsyncs : List FsyncTurns) → slice_get pens core ≡ Some fsyncs
      → PenAgrees start.first start.history (past_of told).turns core fsyncs
  pub few : (turn : Turn) → IsOneOf (past_of told).turns turn → turn.faults ≤ most

-- So such a mount survives each crash, and is read back at its end.
abbrev pub PensMountsClose : View → Type 0
PensMountsClose disk = (share : ℕ) (start : Volume) (entries : List OldEntry) (named : Numbered) (told : Telling) (pens : List (List FsyncTurns))
    (ends : PensEndMount start entries named told disk) → FsyncsAgree start entries named told disk ends pens
    → SurvivesAll share told.moment start.first start.history disk × ReadsBack share start.first start.history disk
