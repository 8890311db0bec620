-- What an unmounted volume comes to, of the mount with which it began.
use Rattle.std.specs.Prelude.{◌≤◌, ℕ, List}
use Rattle.sfs_image.specs.Settled.{layout_of}
use Rattle.sfs_dev.specs.Disk.{View}
use Rattle.sfs_dev.specs.Run.{CountsOn}
use Rattle.sfs_dev.specs.Steps.{IfTold}
use Rattle.journal_one.specs.Calls.{IsCalm}
use Rattle.tree_laws.specs.Tree.{TreeState}
use Rattle.tree_laws.specs.declared.history.Entry.{Entry}
use Rattle.tree_laws.specs.declared.turns.Turn.{Turn}
use Rattle.crash_laws.specs.Survives.{ReadsBack, SurvivesAll}
use Rattle.turn_laws.specs.Recorded.{IsRecorded}
use Rattle.merge_laws.specs.LeftByTurns.{ReadsByTurns, SurvivesByTurns, TellInTime}
use Rattle.merge_laws.specs.Pens.{AgreesAll, FsyncTurns}
use Rattle.merge_laws.specs.Plays.{PensMerge}
use Rattle.mount_begin.specs.Mounted.{share_of_nodes}
use Rattle.turn_ties.specs.Plans.{image_held}
use Rattle.slot_image_laws.specs.Run.{KeepsLaws, RisesFrom}
use Rattle.disk_box.specs.Pens.{PenHand}
pub use Rattle.end_laws.specs.Begins.{HasBegunVolume}
use Rattle.workers.specs.declared.worker.Worker.{Worker}
use Rattle.mount.specs.Volume.{IsMountOfDisk, IsVolume}
use Rattle.mount.specs.declared.volume.Volume.{Volume}
use Rattle.mount.specs.Workers.{AreWorkers}
use Rattle.mount.specs.Ends.{LeavesVolume}

-- What the turns of a volume tell, whose disk had so many faults as it was mounted and so many at the end: all cores agree with their pens on them, and no
-- count is above the last one; so they are what fsyncs do, each of which goes one of the ways with its answer; and they tell of answers and acknowledgements, at moments that don't
-- fall.
pub record TurnsTellAll (first : TreeState) (history : List Entry) (before most : ℕ) (turns : List Turn) : Type 0 where
  pub pens : List (List FsyncTurns)
  pub agrees : AgreesAll first history before most turns pens
  pub merge : PensMerge first history turns
  pub tell : TellInTime history turns

-- A volume survives each crash from a moment on: what is left is read as the tree at a closed cut that covers what was acknowledged by then, and a read at the
-- end gives exactly the fsyncs answered Ok, where none has failed. Both are so in the order of acknowledgements and in that of turns.
pub record SurvivesSince (share from : ℕ) (first : TreeState) (history : List Entry) (turns : List Turn) (disk : View) : Type 0 where
  pub images : SurvivesAll share from first history disk
  pub reads_back : ReadsBack share first history disk
  pub images_by_turns : SurvivesByTurns share from first history turns disk
  pub reads_by_turns : ReadsByTurns share first history turns disk

-- What a volume comes to that was mounted of a disk with so many new nodes: its turns tell all, at moments that rise from the mount's begin to the end, and the
-- books of free space of the disk with which the mount began are kept along them; and where that disk told its content and nothing was pending on it, the volume
-- survives each crash since then, while the count of device calls goes on.
pub record MountComesTo {D : Type 0} (view : D → View) (nodes : ℕ) (disk : D) (volume : Volume D) (left : D) (history : List Entry) (turns : List Turn)
    (mounted : IsMountOfDisk view nodes disk volume) : Type 0 where
  pub since : (view disk).faults ≤ volume.set.table.given.faults
  pub until : volume.set.table.given.faults ≤ (view left).faults
  pub dated : RisesFrom (view disk).now turns (view left).now
  pub turns_tell : TurnsTellAll volume.table.first history volume.set.table.given.faults (view left).faults turns
  pub has : HasBegunVolume nodes mounted.begun history (view disk) (view mounted.left)
  pub recorded : IsRecorded volume.table.first history (image_held has.start) (view disk).faults (view left).faults turns
  pub survives : IfTold (view disk).content (λ image. IsCalm (view disk) → CountsOn (view left)
      → SurvivesSince (share_of_nodes nodes (layout_of image)) (view disk).now volume.table.first history turns (view left))

-- So it does, whichever disk it was mounted of.
abbrev pub VolumeSurvives : {D : Type 0} → (D → View) → Volume D → D → List Entry → List Turn → Type 0
VolumeSurvives {D} view volume left history turns = (nodes : ℕ) (disk : D) (mounted : IsMountOfDisk view nodes disk volume)
    → MountComesTo view nodes disk volume left history turns mounted

-- So it is of each volume that was left, with all workers at rest.
abbrev pub UnmountedSurvive : {D : Type 0} → (D → View) → Type 0
UnmountedSurvive {D} view = (volume : Volume D) (workers : List (Worker (PenHand D))) (left : D) (history : List Entry) (turns : List Turn)
    → ((disk : D) → KeepsLaws (view disk)) → IsVolume volume → AreWorkers volume workers → LeavesVolume view volume workers left history turns
    → VolumeSurvives view volume left history turns
