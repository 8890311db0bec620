use Rattle.bench_fsync.specs.Mounted.{IsMounted}
use Rattle.bench_fsync.proofs.disks.is_filled.Given as goal

abbrev pub invariant-loop-node : goal.invariant-loop-node
invariant-loop-node g l = IsMounted l.mounted
