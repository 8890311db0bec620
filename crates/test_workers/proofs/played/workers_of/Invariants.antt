use Rattle.std.proofs.Common.{◌≡◌, ◌+◌, ◌≤◌, ◌++◌, length, map}
use Rattle.std.specs.Vec.{vec_capacity}
use Rattle.test_workers.specs.Teams.{new_worker}
use Rattle.test_workers.proofs.played.workers_of.Given as goal

abbrev pub invariant-loop-core : goal.invariant-loop-core
invariant-loop-core l = record {
  room : length l.workers.items + length l.core-iterator.rest.items ≤ vec_capacity l.workers;
  made : l.workers.items ++ map new_worker l.core-iterator.rest.items ≡ map new_worker l.fn.cores.items;
}
