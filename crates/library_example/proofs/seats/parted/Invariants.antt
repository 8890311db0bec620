use Rattle.std.proofs.Common.{◌≡◌, ◌+◌, ◌≤◌, ◌++◌, length, map}
use Rattle.std.specs.Vec.{vec_capacity}
use Rattle.library_example.specs.Seats.{worker_at}
use Rattle.library_example.proofs.seats.parted.Given as goal

abbrev pub invariant-loop-seat : goal.invariant-loop-seat
invariant-loop-seat g l = record {
  for_workers : length l.workers.items + length l.seat-iterator.rest.items ≤ vec_capacity l.workers;
  for_reads : length l.reads.items + length l.seat-iterator.rest.items ≤ vec_capacity l.reads;
  workers : l.workers.items ++ map worker_at l.seat-iterator.rest.items ≡ map worker_at l.fn.seats.items;
}
