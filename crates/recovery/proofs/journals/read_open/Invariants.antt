use Rattle.std.proofs.Common.{◌≡◌, ◌≤◌, length, map}
use Rattle.std.specs.List.{AllByRecursion}
use Rattle.sfs_dev.specs.Steps.{IfTold}
use Rattle.sfs_image.specs.Settled.{slot_count}
use Rattle.recovery.specs.declared.journals.OpenSlot.{OpenSlot}
use Rattle.recovery.specs.Open.{AreOpen, IsGoodSlot}
use Rattle.sfs_dev.proofs.Runs.{ReadSoFar}
use Rattle.recovery.proofs.journals.read_open.Given as goal

abbrev pub invariant-loop-number : goal.invariant-loop-number
invariant-loop-number g l = let view = g.D.Disk.view in record {
  end : l.number-end ≡ slot_count l.layout;
  run : ReadSoFar (view l.fn.disk) (view l.disk);
  stamps : l.stamps.items ≡ map (λ (one : OpenSlot). one.stamp) l.found.items;
  good : AllByRecursion (IsGoodSlot l.layout) l.found.items;
  few : length l.found.items ≤ l.number;
  found : IfTold (view l.fn.disk).content (λ image. AreOpen l.layout image l.number l.found.items);
}
