-- How a tree is built before any call.
use Rattle.std.specs.Prelude.{◌≡◌, ◌⊎◌, ℕ, ◌+◌, ◌*◌, ◌<◌, ◌≤◌, List, [], length, replicate, slice_index, IsSome}
use Rattle.std.specs.Ordering.{nat_cmp}
use Rattle.std.specs.FinMap.{FinMap, empty, insert, get}
use Rattle.sfs_base.specs.declared.numbers.Kind.{Kind}
use Rattle.sfs_base.specs.declared.numbers.Kind.TheVariants.{Directory}
use Rattle.tree_laws.specs.Tree.{TreeState, Node}

-- the root alone, with this number for the first new node, this share for each core, and this many cores
abbrev pub root_alone : ℕ → ℕ → ℕ → TreeState
root_alone first share cores = record {
  rows = empty;
  nodes = insert empty 0 (record { kind = Directory; bytes = [] });
  first = first;
  share = share;
  made = replicate cores 0;
}

-- a tree with a further node
abbrev pub with_node : TreeState → ℕ → Kind → List ℕ → TreeState
with_node tree node kind bytes = record tree { nodes = insert tree.nodes node (record { kind = kind; bytes = bytes }) }

-- a tree with a further row
abbrev pub with_row : TreeState → ℕ → List ℕ → ℕ → TreeState
with_row tree directory name child = record tree { rows = insert tree.rows (directory, name) child }

-- Each node has a number below the first new one, or one that a core has given.
pub record IsDrawn (nodes : FinMap nat_cmp Node) (first share : ℕ) (made : List ℕ) : Type 0 where
  pub known : (node : ℕ) → IsSome (get nodes node)
      → (node < first) ⊎ ((core creation : ℕ) × (core < length made) × (creation < slice_index made core) × (node ≡ first + core * share + creation))

-- the numbers of a tree: those of the disk lie below 16,385, the new ones are at most 65,536
pub record IsAllowed (first share : ℕ) (made : List ℕ) : Type 0 where
  pub low : first ≤ 16384
  pub shares : share * length made ≤ 65536
  pub within : (core : ℕ) → slice_index made core ≤ share

-- what the numbers and the nodes of a tree are to one another
pub record IsFounded (nodes : FinMap nat_cmp Node) (first share : ℕ) (made : List ℕ) : Type 0 where
  pub allowed : IsAllowed first share made
  pub drawn : IsDrawn nodes first share made
