use Rattle.std.proofs.Common.{◌≡◌, ◌+◌, ◌≤◌, ◌++◌, length, map}
use Rattle.std.specs.Vec.{vec_capacity}
use Rattle.mount.specs.Workers.{core_of, pen_of}
use Rattle.mount.proofs.unmounting.part.Given as goal

abbrev pub invariant-loop-worker : goal.invariant-loop-worker
invariant-loop-worker g l = record {
  for_cores : length l.room.cores.items + length l.worker-iterator.rest.items ≤ vec_capacity l.room.cores;
  for_pens : length l.room.pens.items + length l.worker-iterator.rest.items ≤ vec_capacity l.room.pens;
  cores : l.room.cores.items ++ map core_of l.worker-iterator.rest.items ≡ map core_of l.fn.workers.items;
  pens : l.room.pens.items ++ map pen_of l.worker-iterator.rest.items ≡ map pen_of l.fn.workers.items;
}
