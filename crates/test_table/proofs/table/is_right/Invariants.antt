use Rattle.std.proofs.Common.{◌≡◌, length}
use Rattle.tree_laws.specs.Sound.{IsSound}
use Rattle.test_table.proofs.table.is_right.Given as goal

abbrev pub invariant-loop-place : goal.invariant-loop-place
invariant-loop-place l = record {
  sound : IsSound l.tree;
  cores : length l.tree.made ≡ l.fn.cores;
  counts : length l.next.items ≡ l.fn.cores;
}
