-- What a run of phases on a volume leaves, of the image that was mounted.
use Rattle.std.specs.Prelude.{◌≡◌, ℕ, List, OnErr, OnOk, Result}
use Rattle.sfs_image.specs.Settled.{layout_of}
use Rattle.sfs_dev.specs.Disk.{View}
use Rattle.sfs_dev.specs.Run.{Advances}
use Rattle.tree_laws.specs.declared.history.Entry.{Entry}
use Rattle.tree_laws.specs.declared.turns.Turn.{Turn}
use Rattle.tree_laws.specs.History.{IsLegal}
use Rattle.tree_laws.specs.Tree.{TreeState}
use Rattle.mount_begin.specs.Mounted.{share_of_nodes}
use Rattle.disk_box.specs.Pens.{PenHand}
use Rattle.workers.specs.declared.worker.Worker.{Worker}
use Rattle.mount.specs.Ends.{LeavesVolume}
use Rattle.mount.specs.Survives.{SurvivesSince}
use Rattle.mount.specs.declared.volume.Volume.{Volume}
use Rattle.script.specs.declared.commands.Line.{Line}
use Rattle.script.specs.Follows.{Follows, FollowsSoFar}
use Rattle.scalefs_run.specs.Images.{IfToldAndCalm}
use Rattle.scalefs_run.specs.Turns.{HasTurns}
use Rattle.scalefs_run.specs.Writing.{text_behind, text_due}
use Rattle.scalefs_run.specs.declared.writing.Ending.{Ending}
use Rattle.scalefs_run.specs.declared.writing.Writing.{Writing}

-- A history has the calls of phases by how these ended: all of them, or those of a begin where memory was refused.
pub record HasCalls {V F : Type 0} (phases : List (List Line)) (history : List Entry) (ended : Result V F) : Type 0 where
  pub ok : OnOk ended (Follows phases history)
  pub err : OnErr ended (FollowsSoFar phases history)

-- Calls were made from a tree that was mounted of a disk with so many new nodes: they are legal from there on, the turns at the
-- disk tell what each fsync did, what a crash leaves since the mount's begin is safe, and the disk has gone on by device calls.
pub record LeavesRun (nodes : ℕ) (first : TreeState) (old new : View) (history : List Entry) (turns : List Turn) : Type 0 where
  pub legal : IsLegal first history
  pub turns_are : HasTurns old new first history turns
  pub images : IfToldAndCalm old new (λ image. SurvivesSince (share_of_nodes nodes (layout_of image)) old.now first history turns new)
  pub advances : Advances old new

-- What is due by what was found at the end of a run is what is due behind each history that its volume leaves which is unmounted with these workers.
abbrev pub EndsVolume : {D : Type 0} → (D → View) → Volume D → List (Worker (PenHand D)) → Writing → Ending → Type 0
EndsVolume {D} view volume workers writing ending = (disk : D) (history : List Entry) (turns : List Turn)
    → LeavesVolume view volume workers disk history turns → text_due ending history ≡ text_behind writing volume.table.first history
