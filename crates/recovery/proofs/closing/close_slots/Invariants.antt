use Rattle.std.proofs.Common.{ℕ, None}
use Rattle.sfs_image.specs.Part.{Part}
use Rattle.journal_one.specs.Calls.{IsCalm}
use Rattle.journal_one.specs.Known.{EachLeft}
use Rattle.recovery.specs.Cause.{Undisturbed}
use Rattle.recovery.specs.Recovering.{IsToBeClosed, ClosesSoFar}
use Rattle.recovery.proofs.ClosedOnDisk.{stamps_left}
use Rattle.recovery.proofs.closing.close_slots.Given as goal

abbrev pub decreases-loop-place : goal.decreases-loop-place
decreases-loop-place g l = stamps_left l.last

abbrev pub invariant-loop-place : goal.invariant-loop-place
invariant-loop-place g l = let view = g.D.Disk.view in record {
  so_far : Undisturbed (view l.fn.disk) (view l.disk);
  calm : IsCalm (view l.fn.disk) → IsCalm (view l.disk);
  closed : (parts : ℕ → Part) → EachLeft (view l.fn.disk) (IsToBeClosed l.layout parts l.found None)
      → ClosesSoFar l.layout parts l.found l.last (view l.fn.disk) (view l.disk);
}
