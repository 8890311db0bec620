-- What a visit leaves.
use Rattle.std.specs.Prelude.{ℕ, List}
use Rattle.sfs_dev.specs.Disk.{View}
use Rattle.disk_box.specs.Pens.{PenHand}
use Rattle.workers.specs.declared.worker.Worker.{Worker}
use Rattle.mount.specs.Ends.{LeavesVolume}
use Rattle.mount.specs.Survives.{MountComesTo}
use Rattle.mount.specs.Volume.{IsMountOfDisk}
use Rattle.mount.specs.declared.volume.Volume.{Volume}
use Rattle.library_example.specs.declared.visit.Left.{Left}

-- What is left of a disk: a volume was mounted of it, and has left this history and these turns, which its workers made; and whatever a crash left
-- meanwhile, it is read as a tree that has what was acknowledged by then.
pub record IsLeftOf {D : Type 0} (view : D → View) (nodes : ℕ) (disk : D) (left : Left D) : Type 0 where
  pub volume : Volume D
  pub workers : List (Worker (PenHand D))
  pub mounted : IsMountOfDisk view nodes disk volume
  pub leaves : LeavesVolume view volume workers left.disk left.history left.turns.items
  pub survives : MountComesTo view nodes disk volume left.disk left.history left.turns.items mounted
