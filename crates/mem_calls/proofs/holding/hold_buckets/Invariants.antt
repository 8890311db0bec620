use Rattle.std.proofs.Common.{◌<◌, ◌≤◌, ◌+◌, ◌*◌, ℕ, IsSome}
use Rattle.stamp_table.specs.Ascending.{LiesAbove}
use Rattle.mem_values.specs.Start.{given_by}
use Rattle.mem_calls.specs.Held.{bucket_held}
use Rattle.mem_calls.specs.Working.{IsWorking, WorksOn, StillHolds}
use Rattle.mem_calls.proofs.holding.hold_buckets.Given as goal

abbrev pub invariant-loop-number : goal.invariant-loop-number
invariant-loop-number g l = record {
  work : IsWorking (given_by l.shared) l.shared l.core;
  on : WorksOn l.initial.core l.core;
  still : StillHolds l.nodes l.initial.core l.core;
  buckets : (k : ℕ) → k < l.number → IsSome (bucket_held l.nodes l.core.held l.node k);
  above : LiesAbove (16 + 9 * l.node.0 + l.number) l.core.view.held;
  low : LiesAbove (32 + 10 * l.nodes) l.core.view.held;
  room : l.initial.core.room + 1 ≤ l.core.room + l.number;
}
