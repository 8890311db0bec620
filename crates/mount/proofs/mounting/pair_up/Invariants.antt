use Rattle.std.proofs.Common.{◌≡◌, ◌+◌, ◌≤◌, ◌++◌, length}
use Rattle.std.specs.Vec.{vec_capacity}
use Rattle.mount.specs.Workers.{workers_begun}
use Rattle.mount.proofs.mounting.pair_up.Given as goal

abbrev pub invariant-loop-core : goal.invariant-loop-core
invariant-loop-core g l = record {
  room : length l.workers.items + length l.core-iterator.rest.items ≤ vec_capacity l.workers;
  same : length l.pens.rest.items ≡ length l.core-iterator.rest.items;
  made : l.workers.items ++ workers_begun l.core-iterator.rest.items l.pens.rest.items ≡ workers_begun l.fn.cores.items l.fn.pens.items;
}
