use Rattle.std.proofs.Common.{◌≡◌, length}
use Rattle.tree_laws.specs.Sound.{IsSound}
use Rattle.test_volume.proofs.judged.tree_after.Given as goal

abbrev pub invariant-loop-stamp : goal.invariant-loop-stamp
invariant-loop-stamp g l = record {
  sound : IsSound l.tree;
  cores : length l.tree.made ≡ 4;
}
