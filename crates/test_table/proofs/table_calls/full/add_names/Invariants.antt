use Rattle.begun_tables.specs.Begun.{IsBuiltTree, KeepsNumbers}
use Rattle.test_table.proofs.table_calls.full.add_names.Given as goal

abbrev pub invariant-loop-number : goal.invariant-loop-number
invariant-loop-number g l = record {
  built : IsBuiltTree l.tree;
  numbers : KeepsNumbers l.initial.tree l.tree;
}
