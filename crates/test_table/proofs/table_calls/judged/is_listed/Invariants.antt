use Rattle.std.proofs.Common.{◌<◌, length}
use Rattle.tree_laws.specs.Sound.{IsSound}
use Rattle.test_table.proofs.table_calls.judged.is_listed.Given as goal

abbrev pub invariant-loop-place : goal.invariant-loop-place
invariant-loop-place l = record {
  sound : IsSound l.tree;
  known : 0 < length l.tree.made;
}
