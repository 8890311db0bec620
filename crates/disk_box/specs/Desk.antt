-- What lies in the box fits what the labels come to.
use Rattle.std.specs.declared.snapshot.Snapshot.{Snapshot}
use Rattle.std.specs.Prelude.{◌≡◌, ◌+◌, ◌≤◌, ℕ, zero, suc, Bool, true, false, List, length, Option, Some, None, is_some, if◌then◌else◌, slice_get, unwrap_or, option_map, max}
use Rattle.std.specs.Option.{option_or}
use Rattle.sfs_image.specs.Super.{IsLayout}
use Rattle.sfs_image.specs.Settled.{slot_count}
use Rattle.sfs_dev.specs.Disk.{View}
use Rattle.sfs_dev.specs.Run.{Advances}
use Rattle.sfs_dev.specs.Steps.{TellsAlike}
use Rattle.tree_laws.specs.declared.turns.Turn.{Turn}
use Rattle.slot_laws.specs.Labels.{BoxPast, OwnTold, SlotFlight}
use Rattle.slot_image_laws.specs.Run.{KeepsLaws, RunFits}
use Rattle.commit_ledger.specs.Keeps.{LedgerKeeps}
use Rattle.commit_ledger.specs.View.{OpenView, open_in}
use Rattle.disk_box.specs.declared.key.BoxKey.{BoxKey}
use Rattle.disk_box.specs.declared.desk.Desk.{Desk}
use Rattle.disk_box.specs.Slots.{SlotsFit}
use Rattle.cut_laws.specs.Rules.{IsOneOf}

-- the turn that waits for a core in a list by core
abbrev pub wait_in : List (Option Turn) → ℕ → Option Turn
wait_in waits core = unwrap_or (slice_get waits core) None

-- how many turns a commit may take at most once it has reserved: it begins, it is opened, and it is durable, fails or is halted
abbrev pub MOST_OWED : ℕ
MOST_OWED = 3

-- how many turns a flight may take yet
abbrev pub owed_by_flight : SlotFlight → ℕ
owed_by_flight flight = if flight.opened then 1 else MOST_OWED

-- so of one where there is one
abbrev pub owed_in : Option SlotFlight → ℕ
owed_in None = 0
owed_in (Some flight) = owed_by_flight flight

-- how many turns a core may take yet that has told so much: those of a commit that has reserved, or of its flight, where no turn waits for it
abbrev pub owed_of : OwnTold → Option Turn → ℕ
owed_of own (Some turn) = 0
owed_of own None = if own.over then 0 else if is_some own.reserved then MOST_OWED else owed_in own.flight

-- how many turns the first cores may take yet
abbrev pub owed_by : ℕ → BoxPast → ℕ
owed_by zero past = 0
owed_by (suc n) past = owed_by n past + owed_of (past.owns n) (past.waits n)

-- the open commit of a core, by its number and whether it has begun, that has told so much: that of its flight, where no turn waits for it, or the
-- one for which it has reserved
abbrev pub open_for : OwnTold → Option Turn → Option (ℕ × Bool)
open_for own (Some turn) = None
open_for own None = option_or (option_map (λ number. (number, false)) own.reserved) (option_map (λ flight. (flight.commit, true)) own.flight)

-- an open commit of a ledger, by its number and whether it has begun
abbrev pub open_told : OpenView → ℕ × Bool
open_told one = (one.number, is_some one.debt)

-- A disk has gone on by device calls alone from what it was as its box was made, and tells what a read gives exactly where it did, where the key tells that.
pub record GoesOnSince {D : Type 0} (view : D → View) (key : BoxKey D) (disk : D) : Type 0 where
  pub goes : (first : Snapshot D) → key.first ≡ Some first → Advances (view first.value) (view disk)
  pub tells : (first : Snapshot D) → key.first ≡ Some first → TellsAlike (view first.value) (view disk)

-- no turn has a count of faults above this
abbrev pub HaveFew : List Turn → ℕ → Type 0
HaveFew turns most = (turn : Turn) → IsOneOf turns turn → turn.faults ≤ most

-- The disk of a box and what is kept beside its slots fit what labels come to.
pub record FrameFits {D : Type 0} (view : D → View) (key : BoxKey D) (past : BoxPast) (desk : Desk D) : Type 0 where
  pub layout : IsLayout key.layout.blocks key.layout
  pub large : key.layout.blocks ≤ (view desk.disk).size
  pub laws : (disk : D) → KeepsLaws (view disk)
  pub count : length desk.slots.items ≡ slot_count key.layout
  pub cores : length desk.waits.items ≡ key.layout.cores
  pub waits : (core : ℕ) → wait_in desk.waits.items core ≡ past.waits core
  pub ledger : LedgerKeeps desk.ledger past
  pub places : length desk.ledger.opens ≡ key.layout.cores
  pub opens : (core : ℕ) → option_map open_told (open_in desk.ledger core) ≡ open_for (past.owns core) (past.waits core)
  pub stamps : desk.stamps ≡ past.stamps
  pub faults : desk.faults ≡ key.faults
  pub failed : desk.failed ≡ past.failed
  pub turns : desk.turns.items ≡ past.turns
  pub few : HaveFew past.turns (max key.faults (view desk.disk).faults)
  pub moment : past.moment ≤ (view desk.disk).now
  pub since : GoesOnSince view key desk.disk
  pub run : RunFits key.layout key.start past (view desk.disk)

-- a turn's count of faults: that of the box until a commit has failed, and then the disk's as the box was taken
abbrev pub turn_faults : ℕ → Option ℕ → ℕ → ℕ
turn_faults before None now = before
turn_faults before (Some failed) now = now

-- Of the disk's faults: none has risen until a commit has failed, and then there are as many at least.
abbrev pub FaultsFit : ℕ → Option ℕ → ℕ → Type 0
FaultsFit before None faults = faults ≡ before
FaultsFit before (Some failed) faults = failed ≤ faults

-- There is room for all turns that cores may take yet.
abbrev pub RoomFits : {D : Type 0} → BoxKey D → BoxPast → Desk D → Type 0
RoomFits key past desk = owed_by key.layout.cores past ≤ desk.turns.spare

-- A desk fits what labels come to; once a commit has failed nothing is said of its slots.
pub record DeskFits {D : Type 0} (view : D → View) (key : BoxKey D) (past : BoxPast) (desk : Desk D) : Type 0 where
  pub frame : FrameFits view key past desk
  pub room : RoomFits key past desk
  pub faults : FaultsFit key.faults past.failed (view desk.disk).faults
  pub slots : past.failed ≡ None → SlotsFit key.layout past.slots desk.slots.items
