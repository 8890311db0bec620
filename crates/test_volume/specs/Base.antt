-- The tree of an empty disk.
use Rattle.std.specs.Prelude.{◌≡◌, length}
use Rattle.tree_laws.specs.Sound.{IsSound}
use Rattle.tree_laws.specs.Tree.{TreeState}

-- It is sound, and has the four cores that disks of drawn scripts have.
pub record IsFirst (tree : TreeState) : Type 0 where
  pub sound : IsSound tree
  pub cores : length tree.made ≡ 4
