use Rattle.std.proofs.Common.{◌≤◌, ◌+◌, ◌*◌, length, take, drop, map}
use Rattle.stamp_table.specs.Ascending.{LiesAbove, RiseAbove}
use Rattle.mem_values.specs.Start.{given_by}
use Rattle.mem_calls.specs.Working.{IsWorking, WorksOn}
use Rattle.fsync_look.specs.Look.{flushed_place, HoldsNodes}
use Rattle.fsync_look.proofs.holding.hold_nodes.Given as goal

abbrev pub invariant-loop-node : goal.invariant-loop-node
invariant-loop-node g l = record {
  work : IsWorking (given_by l.shared) l.shared l.core;
  on : WorksOn l.initial.core l.core;
  holds : HoldsNodes l.nodes (take l.node-index l.list) l.core;
  above : RiseAbove l.core.view.held (map (flushed_place l.nodes) (drop l.node-index l.list));
  low : LiesAbove (32 + 10 * l.nodes) l.core.view.held;
  room : length (drop l.node-index l.list) ≤ l.core.room;
}
