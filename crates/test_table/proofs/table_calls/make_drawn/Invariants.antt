use Rattle.std.proofs.Common.{◌<◌, length}
use Rattle.tree_laws.specs.Sound.{IsSound}
use Rattle.stamp_table.specs.Table.{IsBetweenCalls, IsSameCore}
use Rattle.test_table.proofs.table_calls.make_drawn.Given as goal

abbrev pub invariant-loop : goal.invariant-loop
invariant-loop g l = record {
  same : IsSameCore l.initial.core l.core;
  between : IsBetweenCalls l.table l.core;
  sound : IsSound l.tree;
  known : 0 < length l.tree.made;
}
