use Rattle.std.proofs.Common.{◌≡◌}
use Rattle.sfs_dev.specs.Steps.{IfTold}
use Rattle.sfs_image.specs.Settled.{slot_count}
use Rattle.recovery.specs.Cause.{Undisturbed}
use Rattle.recovery.specs.Mkfs.{ShutBelow}
use Rattle.recovery.proofs.making.close_gates.Given as goal

abbrev pub invariant-loop-number : goal.invariant-loop-number
invariant-loop-number g l = let view = g.D.Disk.view in record {
  end : l.number-end ≡ slot_count l.layout;
  so_far : Undisturbed (view l.fn.disk) (view l.disk);
  shut : IfTold (view l.disk).content (ShutBelow l.layout l.number);
}
