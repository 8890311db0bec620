use Rattle.stamp_table.specs.Table.{IsBetweenCalls, IsSameCore}
use Rattle.test_table.proofs.table_calls.beside.calls_beside.Given as goal

abbrev pub invariant-loop-asked : goal.invariant-loop-asked
invariant-loop-asked g l = record {
  same : IsSameCore l.initial.core l.core;
  between : IsBetweenCalls l.table l.core;
}
