-- What is so of journals that were closed: their cores are at rest, and their disk began with the parts of its mount.
use Rattle.std.specs.Prelude.{ℕ, List}
use Rattle.sfs_image.specs.ImageOf.{IsImageOf}
use Rattle.sfs_image.specs.Part.{Part}
use Rattle.sfs_image.specs.Super.{IsLayout}
use Rattle.sfs_dev.specs.Disk.{View, images}
use Rattle.sfs_dev.specs.Run.{CountsOn}
use Rattle.commit_one.specs.Change.{nothing_open}
use Rattle.tree_laws.specs.declared.turns.Turn.{Turn}
use Rattle.stamp_table.specs.declared.event.Event.{Event}
use Rattle.stamp_table.specs.Events.{event_core}
use Rattle.stamp_table.specs.Rule.{entries_by}
use Rattle.stamp_table.specs.Table.{TableState}
use Rattle.slot_laws.specs.declared.label.Label.{Label}
use Rattle.slot_laws.specs.Labels.{own_from, nothing_told}
use Rattle.slot_laws.specs.Laws.{IsAtRest}
use Rattle.slot_image_laws.specs.Run.{BeganWith}
use Rattle.disk_box.specs.Desk.{GoesOnSince}
use Rattle.disk_box.specs.declared.key.BoxKey.{BoxKey}
use Rattle.disk_box.specs.Pens.{PenHand}
use Rattle.journal_set.specs.Making.{BeganOver, IsKeyOf, LeavesDisk, MayClose}

-- Each core is at rest with what it told of these labels.
abbrev pub CoresRest : List (Event Label) → Type 0
CoresRest log = (core : ℕ) → IsAtRest (own_from (entries_by event_core core log) nothing_told)

-- So it is of the labels that journals leave, where nothing of any pen was due as they were closed.
abbrev pub ClosedPensRest : {D : Type 0} → (D → View) → Type 0
ClosedPensRest {D} view = (t : TableState (BoxKey D)) (pens : List (PenHand D)) (log : List (Event Label)) (disk : D) (turns : List Turn)
    → MayClose t pens → LeavesDisk view t.table.given pens log disk turns → CoresRest log

-- Journals were made over one disk, each of whose images stood for these parts with no slot open, and closed with another one, which has counted each of its
-- device calls.
pub record ClosesOver {D : Type 0} (view : D → View) (key : BoxKey D) (parts : ℕ → Part) (first last : D) : Type 0 where
  pub fits : IsLayout key.layout.blocks key.layout
  pub key_is : IsKeyOf key.layout (view first) key.space key
  pub began : BeganOver first key
  pub left : (image : List ℕ) → images (view first) image → IsImageOf key.layout nothing_open parts image
  pub since : GoesOnSince view key last
  pub counts : CountsOn (view last)

-- Then this began with the parts, as the laws of the end ask.
abbrev pub ClosedDisksBegan : {D : Type 0} → (D → View) → Type 0
ClosedDisksBegan {D} view = (key : BoxKey D) (parts : ℕ → Part) (first last : D) → ClosesOver view key parts first last
    → BeganWith key.layout parts key.start (view last)
