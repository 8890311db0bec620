-- How a tree is stored: nodes by their numbers, rows in buckets, and what is counted of the rows.
use Rattle.std.specs.Prelude.{◌≡◌, ℕ, ◌*◌, ◌<◌, ◌≤◌, List, Some, IsSome}
use Rattle.std.specs.FinMap.{get, len}
use Rattle.sfs_tree.specs.declared.counts.Counts.{Counts}
use Rattle.sfs_tree.specs.NodesState.{NodesState}
use Rattle.sfs_tree.specs.RowsState.{RowsState}
use Rattle.sfs_tree.specs.Counts.{IsCounted, IsWide}

-- What the parts of a store are to one another: the counts are those of the rows, each number with a place has its counts and its
-- buckets, and there are at most 81,920 of them; a row stands in a directory with a place, and its child is a node.
pub record IsStored (nodes : NodesState) (counts : Counts) (rows : RowsState) : Type 0 where
  pub counted : IsCounted rows.rows nodes.nodes counts
  pub wide : IsWide counts nodes.places
  pub enough : nodes.places ≤ rows.places
  pub few : rows.places ≤ 81920
  pub most : len rows.rows ≤ 32768 * rows.places
  pub within : (node : ℕ) → IsSome (get nodes.nodes node) → node < nodes.places
  pub placed : (directory : ℕ) (name : List ℕ) (child : ℕ) → get rows.rows (directory, name) ≡ Some child → directory < nodes.places
  pub children : (directory : ℕ) (name : List ℕ) (child : ℕ) → get rows.rows (directory, name) ≡ Some child → IsSome (get nodes.nodes child)
