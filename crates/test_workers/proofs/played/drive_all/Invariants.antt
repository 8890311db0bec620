use Rattle.std.proofs.Common.{◌≡◌, All, length}
use Rattle.workers.specs.Keeping.{agree_always}
use Rattle.workers.specs.Works.{Rests}
use Rattle.test_workers.specs.Teams.{AreSameCores}
use Rattle.test_workers.proofs.played.drive_all.Given as goal

abbrev pub invariant-loop-phase : goal.invariant-loop-phase
invariant-loop-phase g l = record {
  count : length l.workers ≡ length l.fn.workers;
  rest : All (Rests l.table agree_always) l.workers;
  same : AreSameCores l.fn.workers l.workers;
}
