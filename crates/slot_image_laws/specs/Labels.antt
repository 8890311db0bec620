-- The run that labels tell, through each label.
use Rattle.std.specs.Prelude.{◌≡◌, ◌≤◌, Some, true, ℕ, false}
use Rattle.sfs_image.specs.Super.{Layout}
use Rattle.sfs_dev.specs.Disk.{View}
use Rattle.journal_one.specs.Job.{fill_piece, gate_piece, table_piece}
use Rattle.slot_laws.specs.declared.label.Label.{Label}
use Rattle.slot_laws.specs.Slots.{Slots, SlotWork}
use Rattle.slot_laws.specs.Labels.{first_past, BoxPast, after_label}
use Rattle.slot_laws.specs.Fits.{PastFits}
use Rattle.slot_laws.specs.Rules.{MayLabel}
use Rattle.slot_laws.specs.Telling.{is_device_call}
use Rattle.slot_laws.specs.declared.label.Label.TheVariants as label
use Rattle.slot_image_laws.specs.Run.{Writes, Syncs, KeepsLaws, RunFits, BeganWith, BeginWell}
use Rattle.slot_image_laws.specs.Images.{RunStart, LeavesPrefixes}

-- A label is told of the disk as it is, at the moment of now.
abbrev pub IsToldOf : Label → View → Type 0
IsToldOf label.Took disk = Unit {0}
IsToldOf label.Gave disk = Unit {0}
IsToldOf (label.Noted turn) disk = turn.now ≡ disk.now
IsToldOf (label.Reserved commit seen grant) disk = Unit {0}
IsToldOf (label.Returned commit) disk = Unit {0}
IsToldOf (label.Began filling commit node stamp blocks inodes) disk = Unit {0}
IsToldOf (label.Settled slot turn) disk = turn.now ≡ disk.now
IsToldOf (label.Learned turn) disk = Unit {0}
IsToldOf (label.Idled slot) disk = Unit {0}
IsToldOf (label.Empty commit cut opened durable) disk = cut.now ≡ disk.now
IsToldOf _ disk = ⊥

-- A label tells of this device call.
abbrev pub IsDoneBy : Label → Slots → View → View → Type 0
IsDoneBy (label.Filled slot piece done) slots old new =
    (work : SlotWork) → slots slot ≡ Some work → Writes done (fill_piece work.job piece) old new
IsDoneBy (label.Synced now) slots old new = (now ≡ new.now) × Syncs true old new
IsDoneBy (label.Opened slot done cut opened) slots old new =
    (cut.now ≡ new.now) × ((work : SlotWork) → slots slot ≡ Some work → Writes done (gate_piece work.job.place 1) old new)
IsDoneBy (label.Placed slot n done) slots old new =
    (work : SlotWork) → slots slot ≡ Some work → Writes done (table_piece work.job n) old new
IsDoneBy (label.Shut slot done) slots old new =
    (work : SlotWork) → slots slot ≡ Some work → Writes done (gate_piece work.job.place 0) old new
IsDoneBy _ slots old new = ⊥

-- Labels count as device calls that tell of one, and no others.
pub record DeviceCallsAreTold (old new : View) : Type 0 where
  pub done : (fact : Label) (slots : Slots) → IsDoneBy fact slots old new → is_device_call fact ≡ true
  pub told : (fact : Label) → IsToldOf fact new → is_device_call fact ≡ false

-- No label has been told yet of a disk.
abbrev pub FirstRunsFit : View → Type 0
FirstRunsFit disk = (layout : Layout) → layout.blocks ≤ disk.size → RunFits layout disk.now (first_past disk.now) disk

-- A label that is told by the rules of the disk as it is goes on with the run.
abbrev pub ToldLabelsFit : View → Type 0
ToldLabelsFit disk = (layout : Layout) (before core start : ℕ) (fact : Label) (past : BoxPast) → PastFits layout before past
    → MayLabel layout before core fact past → IsToldOf fact disk → KeepsLaws disk
    → RunFits layout start past disk → RunFits layout start (after_label layout core fact past) disk

-- So does one that tells by the rules of a device call.
abbrev pub DoneLabelsFit : View → View → Type 0
DoneLabelsFit old new = (layout : Layout) (before core start : ℕ) (fact : Label) (past : BoxPast)
    → MayLabel layout before core fact past → IsDoneBy fact past.slots old new → KeepsLaws old
    → RunFits layout start past old → RunFits layout start (after_label layout core fact past) new

-- A sync that failed, of which no label tells, goes on with the run too.
abbrev pub FailedSyncsFit : View → View → Type 0
FailedSyncsFit old new = (layout : Layout) (start : ℕ) (past : BoxPast) → Syncs false old new → KeepsLaws old
    → RunFits layout start past old → RunFits layout start past new

-- Each image that a crash since the start may leave shows a front of the record that the labels make.
abbrev pub RecordsAreLeft : View → Type 0
RecordsAreLeft disk = (run : RunStart) (past : BoxPast) → RunFits run.layout run.moment past disk
    → BeganWith run.layout run.parts run.moment disk → BeginWell run past → LeavesPrefixes run past.turns disk
