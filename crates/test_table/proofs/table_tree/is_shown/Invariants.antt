use Rattle.stamp_table.specs.Table.{IsBetweenCalls, IsSameCore}
use Rattle.test_table.proofs.table_tree.is_shown.Given as goal

abbrev pub invariant-loop-shown : goal.invariant-loop-shown
invariant-loop-shown g l = record {
  same : IsSameCore l.initial.core l.core;
  between : IsBetweenCalls l.shared l.core;
}
