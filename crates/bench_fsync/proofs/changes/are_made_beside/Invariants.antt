use Rattle.bench_fsync.specs.Mounted.{IsMounted}
use Rattle.bench_fsync.proofs.changes.are_made_beside.Given as goal

abbrev pub invariant-loop : goal.invariant-loop
invariant-loop g l = IsMounted l.mounted
