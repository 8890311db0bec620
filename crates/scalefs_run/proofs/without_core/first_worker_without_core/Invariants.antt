use Rattle.std.proofs.Common.{◌≡◌, drop}
use Rattle.scalefs_run.specs.WithoutCore.{worker_without_core}
use Rattle.scalefs_run.proofs.without_core.first_worker_without_core.Given as goal

-- what lies before has a core for each worker
abbrev pub invariant-loop-phase : goal.invariant-loop-phase
invariant-loop-phase l = worker_without_core l.cores l.phases ≡ worker_without_core l.cores (drop l.phase-index l.phases)
