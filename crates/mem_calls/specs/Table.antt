-- The table of a file tree.
use Rattle.std.specs.Prelude.{◌≡◌, ℕ, length}
use Rattle.tree_laws.specs.Sound.{IsWithinLimits}
use Rattle.tree_laws.specs.Laws.{IsSoundTree}
use Rattle.tree_laws.specs.Tree.{TreeState}
use Rattle.mem_values.specs.Start.{FileState}
use Rattle.mem_values.specs.Places.{node_count, place_count}
use Rattle.mem_calls.specs.declared.numbers.Numbers.{Numbers}

-- how many nodes a table may have
abbrev pub nodes_of : FileState → ℕ
nodes_of t = node_count t.first

-- A table over a sound tree within its limits, of so many nodes, that has all cells.
pub record IsFileTable (t : FileState) (nodes : ℕ) : Type 0 where
  pub sound : IsSoundTree t.first
  pub within : IsWithinLimits t.first
  pub counted : nodes ≡ node_count t.first
  pub slots : t.table.id.slots ≡ place_count nodes (length t.first.made)

-- A tree's cores number by these the nodes that they make.
pub record AreNumbersOf (first : TreeState) (numbers : Numbers) : Type 0 where
  pub first_is : numbers.first ≡ first.first
  pub share_is : numbers.share ≡ first.share
