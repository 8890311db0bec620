use Rattle.std.proofs.Common.{◌≤◌, None, drop, length}
use Rattle.std.specs.List.{AllByRecursion}
use Rattle.sfs_dev.specs.Steps.{IfTold}
use Rattle.sfs_image.specs.Settled.{table_record}
use Rattle.recovery.specs.Open.{IsOpenSlot}
use Rattle.recovery.specs.Settling.{AreSettled, HaveCounts, best_of, bodies_read}
use Rattle.sfs_dev.proofs.Runs.{ReadSoFar}
use Rattle.recovery.proofs.settled.settle.Given as goal

abbrev pub invariant-loop-left : goal.invariant-loop-left
invariant-loop-left g l = let view = g.D.Disk.view in record {
  within : l.left ≤ length l.found;
  run : ReadSoFar (view l.fn.disk) (view l.disk);
  counts : HaveCounts l.layout.inodes l.newest;
  settled : IfTold (view l.fn.disk).content (λ image. AllByRecursion (IsOpenSlot l.layout image) l.found
      → AreSettled l.layout.inodes (table_record l.layout image) (λ _. None) l.fn.newest
      → AreSettled l.layout.inodes (table_record l.layout image) (best_of (bodies_read l.layout image (drop l.left l.found))) l.newest);
}

abbrev pub decreases-loop-left : goal.decreases-loop-left
decreases-loop-left g l = l.left
