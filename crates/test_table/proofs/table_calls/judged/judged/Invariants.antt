use Rattle.std.proofs.Common.{◌≡◌, length}
use Rattle.tree_laws.specs.Sound.{IsSound}
use Rattle.test_table.proofs.table_calls.judged.judged.Given as goal

abbrev pub invariant-loop-stamp : goal.invariant-loop-stamp
invariant-loop-stamp l = record {
  sound : IsSound l.tree;
  known : length l.draws.items ≡ length l.tree.made;
}
