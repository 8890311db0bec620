use Rattle.stamp_table.specs.Table.{IsBetweenCalls, IsSameCore}
use Rattle.test_table.proofs.table_calls.tasks.draw_often.Given as goal

abbrev pub invariant-loop : goal.invariant-loop
invariant-loop g l = record {
  same : IsSameCore l.initial.core l.core;
  between : IsBetweenCalls l.table l.core;
}
