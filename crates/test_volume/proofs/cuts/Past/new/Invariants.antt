use Rattle.std.proofs.Common.{◌≡◌, length}
use Rattle.tree_laws.specs.Sound.{IsSound}
use Rattle.test_volume.proofs.cuts.Past.new.Given as goal

abbrev pub invariant-loop : goal.invariant-loop
invariant-loop g l = record {
  sound : IsSound l.last;
  cores : length l.last.made ≡ 4;
}
