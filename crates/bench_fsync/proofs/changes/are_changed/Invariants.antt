use Rattle.bench_fsync.specs.Mounted.{IsMounted}
use Rattle.bench_fsync.proofs.changes.are_changed.Given as goal

abbrev pub invariant-loop-time : goal.invariant-loop-time
invariant-loop-time g l = IsMounted l.mounted
