use Rattle.begun_tables.specs.Begun.{IsBuiltTree, KeepsNumbers}
use Rattle.bench_calls.proofs.trees.add_names.Given as goal

abbrev pub invariant-loop-number : goal.invariant-loop-number
invariant-loop-number l = record {
  built : IsBuiltTree l.tree;
  numbers : KeepsNumbers l.initial.tree l.tree;
}
