-- What journals are made of, what their pens are then, and what they leave where they are closed.
use Rattle.std.specs.Prelude.{◌≡◌, ◌*◌, ◌<◌, ℕ, List, [], length, Some, slice_get, max}
use mathlib.Core.List.{IsPrefix}
use Rattle.std.specs.declared.snapshot.Snapshot.{Snapshot}
use Rattle.sfs_image.specs.Super.{Layout}
use Rattle.sfs_dev.specs.Disk.{View}
use Rattle.space_map.specs.Space.{Space}
use Rattle.tree_laws.specs.declared.turns.Turn.{Turn}
use Rattle.merge_laws.specs.Pens.{turns_of_core}
use Rattle.stamp_table.specs.declared.event.Event.{Event}
use Rattle.stamp_table.specs.Events.{event_core}
use Rattle.stamp_table.specs.Rule.{entries_by}
use Rattle.stamp_table.specs.Table.{AreAllCores, TableState}
use Rattle.slot_laws.specs.declared.label.Label.{Label}
use Rattle.slot_laws.specs.Labels.{first_past}
use Rattle.slot_laws.specs.Laws.{AreOfCores}
use Rattle.slot_laws.specs.Slots.{place_at}
use Rattle.slot_image_laws.specs.Run.{RunFits}
use Rattle.slot_laws.specs.Grants.{SpaceGoes}
use Rattle.disk_box.specs.declared.key.BoxKey.{BoxKey}
use Rattle.disk_box.specs.declared.desk.Phase.TheVariants as phase
use Rattle.disk_box.specs.declared.desk.Slot.{Slot}
use Rattle.disk_box.specs.Box.{LawfulBox, past_of}
use Rattle.disk_box.specs.Desk.{FaultsFit, GoesOnSince, HaveFew}
use Rattle.disk_box.specs.Pens.{IsOutside, PenHand, own_at}
use Rattle.journal_set.specs.Ready.{HasNothingDue}

-- A key tells that a box was made over this very disk.
pub record BeganOver {D : Type 0} (disk : D) (key : BoxKey D) : Type 0 where
  pub first : Snapshot D
  pub told : key.first ≡ Some first
  pub is : first.value ≡ disk

-- A key is of a disk with this layout and so much free space, with its counts of device calls and of faults as they are.
pub record IsKeyOf {D : Type 0} (layout : Layout) (disk : View) (space : Space) (key : BoxKey D) : Type 0 where
  pub layout_is : key.layout ≡ layout
  pub faults_are : key.faults ≡ disk.faults
  pub start_is : key.start ≡ disk.now
  pub space_is : key.space ≡ space

-- All slots of a layout, idle, each at its place.
pub record AreIdleSlots (layout : Layout) (slots : List Slot) : Type 0 where
  pub count : length slots ≡ layout.cores * layout.slots
  pub each : (k : ℕ) (slot : Slot) → slice_get slots k ≡ Some slot → slot.phase ≡ phase.Idle (place_at layout k)

-- A pen that begins is a core's own, outside of the box and with room for it; it has seen and told nothing.
pub record IsNewPen {D : Type 0} (t : TableState (BoxKey D)) (core : ℕ) (pen : PenHand D) : Type 0 where
  pub outside : IsOutside t pen
  pub room : 0 < pen.room
  pub core_is : pen.view.core ≡ core
  pub none_seen : pen.view.seen ≡ []
  pub none_told : pen.view.mine ≡ []

-- These are all pens of new journals, by their cores.
pub record AreNewPens {D : Type 0} (t : TableState (BoxKey D)) (pens : List (PenHand D)) : Type 0 where
  pub all : AreAllCores t pens
  pub cores : t.cores ≡ t.table.given.layout.cores
  pub each : (core : ℕ) (pen : PenHand D) → slice_get pens core ≡ Some pen → IsNewPen t core pen

-- Journals may be closed: these are all pens, there are some, none has the box, and nothing of any of them is due.
pub record MayClose {D : Type 0} (t : TableState (BoxKey D)) (pens : List (PenHand D)) : Type 0 where
  pub all : AreAllCores t pens
  pub some : 0 < length pens
  pub outside : (core : ℕ) (pen : PenHand D) → slice_get pens core ≡ Some pen → IsOutside t pen
  pub rests : (core : ℕ) (pen : PenHand D) → slice_get pens core ≡ Some pen → HasNothingDue (own_at pen)

-- What journals leave: a history of labels that were told by the rules, by these pens alone. Each pen told its part of it, and saw a front; the record of
-- turns is what it comes to, and each pen's turns are its core's of the record. The disk is in the run that it tells and has gone on from the first one by device calls, its faults are counted,
-- and free space has gone along it.
pub record LeavesDisk {D : Type 0} (view : D → View) (key : BoxKey D) (pens : List (PenHand D)) (log : List (Event Label)) (disk : D) (turns : List Turn) :
    Type 0 where
  pub lawful : LawfulBox key log
  pub own : AreOfCores (length pens) log
  pub mine : (core : ℕ) (pen : PenHand D) → slice_get pens core ≡ Some pen → pen.view.mine ≡ entries_by event_core core log
  pub seen : (core : ℕ) (pen : PenHand D) → slice_get pens core ≡ Some pen → IsPrefix pen.view.seen log
  pub record_is : turns ≡ (past_of key log).turns
  pub few : HaveFew turns (max key.faults (view disk).faults)
  pub parts : (core : ℕ) (pen : PenHand D) → slice_get pens core ≡ Some pen → turns_of_core core turns ≡ (own_at pen).told
  pub run : RunFits key.layout key.start (past_of key log) (view disk)
  pub since : GoesOnSince view key disk
  pub faults : FaultsFit key.faults (past_of key log).failed (view disk).faults
  pub space : (now : Space) × SpaceGoes key.layout log (first_past key.start) key.space now
