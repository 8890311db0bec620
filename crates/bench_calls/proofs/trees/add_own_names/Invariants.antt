use Rattle.begun_tables.specs.Begun.{IsBuiltTree, KeepsNumbers}
use Rattle.bench_calls.proofs.trees.add_own_names.Given as goal

abbrev pub invariant-loop-thread : goal.invariant-loop-thread
invariant-loop-thread l = record {
  built : IsBuiltTree l.tree;
  numbers : KeepsNumbers l.initial.tree l.tree;
}
