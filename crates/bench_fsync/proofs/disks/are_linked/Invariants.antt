use Rattle.bench_fsync.specs.Mounted.{IsMounted}
use Rattle.bench_fsync.proofs.disks.are_linked.Given as goal

abbrev pub invariant-loop-row : goal.invariant-loop-row
invariant-loop-row g l = IsMounted l.mounted
