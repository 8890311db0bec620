use Rattle.bench_fsync.specs.Mounted.{IsMounted}
use Rattle.bench_fsync.proofs.changes.is_made_and_gone.Given as goal

abbrev pub invariant-loop-word : goal.invariant-loop-word
invariant-loop-word g l = IsMounted l.mounted
