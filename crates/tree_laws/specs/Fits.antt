-- When what a call does fits a tree: as where no condition of the table holds.
use Rattle.std.specs.Prelude.{◌≡◌, ◌≢◌, ℕ, ◌<◌, true, false, List, [], ◌∷◌, Option, Some, None, IsSome}
use Rattle.std.specs.FinMap.{get}
use Rattle.sfs_base.specs.declared.numbers.Kind.{Kind}
use Rattle.tree_laws.specs.Tree.{TreeState, row_of, is_alive, is_directory, made_by, next_number}
use Rattle.tree_laws.specs.Sound.{Above}
use Rattle.tree_laws.specs.Effect.{Effect, Stays, Adds, Removes, Moves, Edits}

-- a directory in which a row may come: it is alive
pub record MayHold (tree : TreeState) (directory : ℕ) : Type 0 where
  pub kind : is_directory tree directory ≡ true
  pub alive : is_alive tree directory ≡ true

-- no row stands in a directory
abbrev pub HasNoRows : TreeState → ℕ → Type 0
HasNoRows tree directory = (name : List ℕ) → row_of tree directory name ≡ None

-- no row names a node
abbrev pub IsUnnamed : TreeState → ℕ → Type 0
IsUnnamed tree node = (directory : ℕ) (name : List ℕ) → row_of tree directory name ≢ Some node

-- none of these directories is this one
abbrev pub Lacks : List ℕ → ℕ → Type 0
Lacks [] node = Unit {0}
Lacks (above ∷ rest) node = (above ≢ node) × Lacks rest node

-- A row that comes: its place is free, and its child is a node and not the root; where that is a directory, no row names it.
pub record FitsAdds (tree : TreeState) (directory : ℕ) (name : List ℕ) (child : ℕ) : Type 0 where
  pub holder : MayHold tree directory
  pub free : row_of tree directory name ≡ None
  pub no_root : child ≢ 0
  pub placeless : is_directory tree child ≡ true → IsUnnamed tree child
  pub node : IsSome (get tree.nodes child)

-- A row that comes with a node that is made: its place is free, and the node has the core's next number, which is no node's.
pub record FitsMakes (tree : TreeState) (core directory : ℕ) (name : List ℕ) (child : ℕ) : Type 0 where
  pub holder : MayHold tree directory
  pub free : row_of tree directory name ≡ None
  pub number : child ≡ next_number tree core
  pub within : made_by tree core < tree.share
  pub fresh : get tree.nodes child ≡ None

-- A row that goes: it is there, and a directory that it names has no rows.
pub record FitsRemoves (tree : TreeState) (directory : ℕ) (name : List ℕ) (child : ℕ) : Type 0 where
  pub row : row_of tree directory name ≡ Some child
  pub bare : is_directory tree child ≡ true → HasNoRows tree child

-- A child that moves: its row is there and the new row does not name it; a directory that it replaces has no rows; and where it is
-- a directory that changes its directory, the new one and those above that are others.
pub record FitsMoves (tree : TreeState) (directory : ℕ) (name : List ℕ) (to_directory : ℕ) (to_name : List ℕ) (child : ℕ) : Type 0 where
  pub row : row_of tree directory name ≡ Some child
  pub holder : MayHold tree to_directory
  pub apart : row_of tree to_directory to_name ≢ Some child
  pub bare : (there : ℕ) → row_of tree to_directory to_name ≡ Some there → is_directory tree there ≡ true → HasNoRows tree there
  pub away : is_directory tree child ≡ true → directory ≢ to_directory → (above : List ℕ) × Above tree to_directory above × Lacks (to_directory ∷ above) child

-- bytes that change: they are those of a file of the tree
pub record FitsEdits (tree : TreeState) (file : ℕ) : Type 0 where
  pub node : IsSome (get tree.nodes file)
  pub kind : is_directory tree file ≡ false

-- an effect that fits a tree in which each node is made already
abbrev pub FitsTree : TreeState → Effect → Type 0
FitsTree tree Stays = Unit {0}
FitsTree tree (Adds directory name child) = FitsAdds tree directory name child
FitsTree tree (Removes directory name child) = FitsRemoves tree directory name child
FitsTree tree (Moves directory name to_directory to_name child) = FitsMoves tree directory name to_directory to_name child
FitsTree tree (Edits file edit) = FitsEdits tree file

-- a core's effect that fits a tree; a node is made with a row alone
abbrev pub Fits : TreeState → ℕ → Effect → Option Kind → Type 0
Fits tree core effect None = FitsTree tree effect
Fits tree core (Adds directory name child) (Some kind) = FitsMakes tree core directory name child
Fits tree core _ (Some kind) = ⊥
