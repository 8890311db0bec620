use Rattle.std.proofs.Common.{◌≡◌, length}
use Rattle.tree_laws.specs.Sound.{IsSound}
use Rattle.test_table.proofs.table_calls.crossing.are_crossings.Given as goal

abbrev pub invariant-loop-stamp : goal.invariant-loop-stamp
invariant-loop-stamp l = record {
  sound : IsSound l.tree;
  cores : length l.tree.made ≡ 4;
  made : length l.made.items ≡ 4;
}
