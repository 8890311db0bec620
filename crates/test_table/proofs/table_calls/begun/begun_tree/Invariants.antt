use Rattle.std.proofs.Common.{◌≡◌, length}
use Rattle.begun_tables.specs.Begun.{IsBuiltTree}
use Rattle.test_table.specs.declared.table_calls.begun.TheConstants.{FIRST, SHARE}
use Rattle.test_table.proofs.table_calls.begun.begun_tree.Given as goal

abbrev pub invariant-loop-node : goal.invariant-loop-node
invariant-loop-node g l = record {
  built : IsBuiltTree l.tree;
  first : l.tree.first ≡ FIRST;
  share : l.tree.share ≡ SHARE;
  made : length l.tree.made ≡ l.fn.cores;
}

abbrev pub invariant-loop-dir : goal.invariant-loop-dir
invariant-loop-dir g l = record {
  built : IsBuiltTree l.tree;
  first : l.tree.first ≡ FIRST;
  share : l.tree.share ≡ SHARE;
  made : length l.tree.made ≡ l.fn.cores;
}
