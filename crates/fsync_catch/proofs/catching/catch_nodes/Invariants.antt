use Rattle.std.specs.Prelude.{All}
use Rattle.std.specs.List.Sorted.{IsStrictlyIncreasing}
use Rattle.std.proofs.Common.{◌≡◌, [], map}
use Rattle.tree_laws.specs.NameRow.{node_number}
use Rattle.mem_values.specs.Start.{given_by}
use Rattle.mem_calls.specs.Working.{IsWorking}
use Rattle.fsync_look.specs.Look.{IsBelow}
use Rattle.fsync_catch.specs.Catch.{GoesOn}
use Rattle.fsync_catch.proofs.catching.catch_nodes.Given as goal

abbrev pub invariant-loop : goal.invariant-loop
invariant-loop g l = record {
  work : IsWorking (given_by l.shared) l.shared l.core;
  on : GoesOn l.initial.core l.core;
  none : (l.core.held ≡ []) × (l.core.view.held ≡ []);
  within : All (IsBelow l.nodes) l.held.items;
  ascend : IsStrictlyIncreasing (map node_number l.held.items);
}
