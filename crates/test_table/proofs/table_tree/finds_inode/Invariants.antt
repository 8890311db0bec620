use Rattle.stamp_table.specs.Table.{IsBetweenCalls, IsSameCore}
use Rattle.test_table.proofs.table_tree.finds_inode.Given as goal

abbrev pub invariant-loop-node : goal.invariant-loop-node
invariant-loop-node g l = record {
  same : IsSameCore l.initial.core l.core;
  between : IsBetweenCalls l.shared l.core;
}
