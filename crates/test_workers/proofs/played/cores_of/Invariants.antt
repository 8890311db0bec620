use Rattle.std.proofs.Common.{◌≡◌, ◌+◌, ◌≤◌, ◌++◌, length, map}
use Rattle.std.specs.Vec.{vec_capacity}
use Rattle.test_workers.specs.Teams.{worker_core}
use Rattle.test_workers.proofs.played.cores_of.Given as goal

abbrev pub invariant-loop-worker : goal.invariant-loop-worker
invariant-loop-worker l = record {
  room : length l.cores.items + length l.worker-iterator.rest.items ≤ vec_capacity l.cores;
  made : l.cores.items ++ map worker_core l.worker-iterator.rest.items ≡ map worker_core l.fn.workers.items;
}
