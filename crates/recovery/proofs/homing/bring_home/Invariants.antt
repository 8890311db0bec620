use Rattle.std.proofs.Common.{ℕ, ◌-◌, Option, length}
use Rattle.sfs_image.specs.ImageOf.{Transaction, IsImageOf}
use Rattle.sfs_image.specs.Part.{Part}
use Rattle.journal_one.specs.Known.{EachLeft}
use Rattle.commit_one.specs.Carried.{Keeps}
use Rattle.recovery.specs.Cause.{Undisturbed}
use Rattle.recovery.specs.Recovering.{AreHome, AreNewestOf}
use Rattle.recovery.proofs.homing.bring_home.Given as goal

abbrev pub decreases-loop-first : goal.decreases-loop-first
decreases-loop-first g l = length l.stamps - l.first

abbrev pub invariant-loop-first : goal.invariant-loop-first
invariant-loop-first g l = let view = g.D.Disk.view in record {
  so_far : Undisturbed (view l.fn.disk) (view l.disk);
  keeps : (opened : ℕ → Option Transaction) (parts : ℕ → Part) → AreNewestOf l.layout opened parts l.stamps l.records
      → EachLeft (view l.fn.disk) (IsImageOf l.layout opened parts)
      → Keeps (IsImageOf l.layout opened parts) (view l.fn.disk) (view l.disk);
  home : AreHome l.layout l.stamps l.records l.first (view l.disk);
}
