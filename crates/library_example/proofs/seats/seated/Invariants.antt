use Rattle.std.proofs.Common.{◌≡◌, ◌+◌, ◌≤◌, ◌++◌, length, map}
use Rattle.std.specs.Vec.{vec_capacity}
use Rattle.library_example.specs.Seats.{worker_at}
use Rattle.library_example.proofs.seats.seated.Given as goal

abbrev pub invariant-loop-worker : goal.invariant-loop-worker
invariant-loop-worker g l = record {
  room : length l.seats.items + length l.worker-iterator.rest.items ≤ vec_capacity l.seats;
  seated : map worker_at l.seats.items ++ l.worker-iterator.rest.items ≡ l.fn.workers.items;
}
