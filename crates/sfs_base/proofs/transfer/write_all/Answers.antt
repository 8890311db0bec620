use Rattle.std.proofs.Common.{arith}
use Rattle.sfs_base.proofs.Steps.{Appends-more}
use Rattle.sfs_base.proofs.transfer.write_all.Goals as goal

pub loop-taken-preserved : goal.loop-taken-preserved
loop-taken-preserved g c = record {
  within = omega (arith, c.in-Ok.ensures.within);
  written = Appends-more _ _ _ _ _ _ c.loop-taken.invariant.written c.in-Ok.ensures.written;
  never_falls = omega (arith, c.in-Ok.ensures.cause.never_falls);
}
