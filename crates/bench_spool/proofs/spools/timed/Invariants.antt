use Rattle.std.proofs.Common.{◌≡◌, length}
use Rattle.mount.specs.Workers.{AreWorkers}
use Rattle.bench_spool.proofs.spools.timed.Given as goal

abbrev pub invariant-loop-phase : goal.invariant-loop-phase
invariant-loop-phase g l = record {
  count : length l.workers ≡ length l.fn.workers;
  workers : AreWorkers l.volume l.workers;
}
