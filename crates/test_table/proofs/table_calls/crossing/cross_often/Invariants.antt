use Rattle.stamp_table.specs.Table.{IsBetweenCalls, IsSameCore}
use Rattle.test_table.proofs.table_calls.crossing.cross_often.Given as goal

abbrev pub invariant-loop-round : goal.invariant-loop-round
invariant-loop-round g l = record {
  same : IsSameCore l.initial.core l.core;
  between : IsBetweenCalls l.table l.core;
}
