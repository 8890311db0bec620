-- When a tree is sound: each directory stands in one place, and the walk up from it ends at the root.
use Rattle.std.specs.Prelude.{◌≡◌, ◌≢◌, ◌⊎◌, ℕ, ◌+◌, ◌*◌, ◌<◌, ◌≤◌, true, List, [], ◌∷◌, length, Some, IsSome, slice_index}
use Rattle.std.specs.FinMap.{get, len}
use Rattle.tree_laws.specs.Tree.{BUCKET_ROWS, TreeState, row_of, is_alive, is_directory, bucket_rows, bytes_of}

-- These are the directories from a node's holder up to the root.
pub data Above (tree : TreeState) : ℕ → List ℕ → Type 0 where
  at_root : Above tree 0 []
  below : (node holder : ℕ) (name : List ℕ) (above : List ℕ) → row_of tree holder name ≡ Some node → Above tree holder above → Above tree node (holder ∷ above)

-- A tree without loops, in which each directory has one place.
pub record IsSound (tree : TreeState) : Type 0 where
  -- the root is a directory, and no row names it
  pub root : is_directory tree 0 ≡ true
  pub unnamed : (directory : ℕ) (name : List ℕ) → row_of tree directory name ≢ Some 0
  -- each row's child is a node
  pub node : (directory : ℕ) (name : List ℕ) (child : ℕ) → row_of tree directory name ≡ Some child → IsSome (get tree.nodes child)
  -- no directory is named by two rows
  pub once : (directory other : ℕ) (name other_name : List ℕ) (child : ℕ) → row_of tree directory name ≡ Some child → row_of tree other other_name ≡ Some child
      → is_directory tree child ≡ true → (directory ≡ other) × (name ≡ other_name)
  -- what has a row is a directory, and it is the root or is named
  pub holds : (directory : ℕ) (name : List ℕ) (child : ℕ) → row_of tree directory name ≡ Some child
      → (is_directory tree directory ≡ true) × (is_alive tree directory ≡ true)
  -- walking up from any named directory ends at the root
  pub climbs : (directory : ℕ) (name : List ℕ) (child : ℕ) → row_of tree directory name ≡ Some child → is_directory tree child ≡ true
      → (above : List ℕ) × Above tree child above

-- a number that a core has given to a node
abbrev pub IsMade : TreeState → ℕ → Type 0
IsMade tree number =
    (core creation : ℕ) × (core < length tree.made) × (creation < slice_index tree.made core) × (number ≡ tree.first + core * tree.share + creation)

-- Each node has a number below the first new one, or one that a core has given; and no core has given more than its share.
pub record IsNumbered (tree : TreeState) : Type 0 where
  pub known : (node : ℕ) → IsSome (get tree.nodes node) → (node < tree.first) ⊎ IsMade tree node
  pub within : (core : ℕ) → core < length tree.made → slice_index tree.made core < tree.share + 1

-- A tree within its limits: no bucket has more rows than it may have, and directories have no bytes.
pub record IsWithinLimits (tree : TreeState) : Type 0 where
  pub buckets : (directory number : ℕ) → len (bucket_rows directory number tree.rows) ≤ BUCKET_ROWS
  pub plain : (node : ℕ) → is_directory tree node ≡ true → bytes_of tree node ≡ []
