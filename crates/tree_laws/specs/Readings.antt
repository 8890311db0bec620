-- What the reply of a call depends on: where two trees agree on it, the call has one reply and one effect in both.
use Rattle.std.specs.Prelude.{◌≡◌, ◌≢◌, ℕ, true, false, List, Some}
use Rattle.sfs_base.specs.Name.{bucket}
use Rattle.tree_laws.specs.declared.call.Call.{Call}
use Rattle.tree_laws.specs.declared.call.Call.TheVariants as call
use Rattle.tree_laws.specs.Fits.{MayHold}
use Rattle.tree_laws.specs.Tree.{TreeState, row_of, is_alive, is_directory, kind_of, bytes_of, count_of, row_count, lies_below, names_of, bucket_rows, made_by}

-- the trees agree on the kind of a node
abbrev pub SameKind : TreeState → TreeState → ℕ → Type 0
SameKind tree other node = kind_of tree node ≡ kind_of other node

-- the trees agree on a node: whether it is alive, and then its kind
pub record SameNode (tree other : TreeState) (node : ℕ) : Type 0 where
  pub alive : is_alive tree node ≡ is_alive other node
  pub kind : is_alive tree node ≡ true → SameKind tree other node

-- the trees agree on the bucket of a directory in which a name lies
abbrev pub SameBucket : TreeState → TreeState → ℕ → List ℕ → Type 0
SameBucket tree other directory name = bucket_rows directory (bucket name) tree.rows ≡ bucket_rows directory (bucket name) other.rows

-- the trees agree on all rows of a directory
abbrev pub SameRows : TreeState → TreeState → ℕ → Type 0
SameRows tree other directory = names_of directory tree.rows ≡ names_of directory other.rows

-- the trees agree on how many rows a directory has
abbrev pub SameCount : TreeState → TreeState → ℕ → Type 0
SameCount tree other directory = row_count tree directory ≡ row_count other directory

-- the trees agree on the kinds of what the rows of a directory name
abbrev pub SameKindsIn : TreeState → TreeState → ℕ → Type 0
SameKindsIn tree other directory = (name : List ℕ) (child : ℕ) → row_of tree directory name ≡ Some child → SameKind tree other child

-- the trees agree on a place: on its directory and on its bucket
pub record SamePlace (tree other : TreeState) (directory : ℕ) (name : List ℕ) : Type 0 where
  pub node : SameNode tree other directory
  pub rows : SameBucket tree other directory name

-- the trees agree on the numbers that a core draws
pub record SameNumbers (tree other : TreeState) (core : ℕ) : Type 0 where
  pub first : tree.first ≡ other.first
  pub share : tree.share ≡ other.share
  pub made : made_by tree core ≡ made_by other core

-- what a rename reads: both places; the child's kind and, where it is a directory that changes its directory for one that may hold it,
-- whether the new one lies below it; of what stands at the new place, the kind and, of a directory, how many rows it has
pub record SameMove (tree other : TreeState) (directory : ℕ) (name : List ℕ) (to_directory : ℕ) (to_name : List ℕ) : Type 0 where
  pub from : SamePlace tree other directory name
  pub to : SamePlace tree other to_directory to_name
  pub child : (child : ℕ) → row_of tree directory name ≡ Some child → SameKind tree other child
  pub below : MayHold tree to_directory → (child : ℕ) → row_of tree directory name ≡ Some child → is_directory tree child ≡ true → directory ≢ to_directory
      → lies_below tree to_directory child ≡ lies_below other to_directory child
  pub kind : (there : ℕ) → row_of tree to_directory to_name ≡ Some there → SameKind tree other there
  pub rows : (there : ℕ) → row_of tree to_directory to_name ≡ Some there → is_directory tree there ≡ true → SameCount tree other there

-- what is asked of a node: of a file its links and its bytes, of a directory its rows and what they name
pub record SameStat (tree other : TreeState) (node : ℕ) : Type 0 where
  pub same : SameNode tree other node
  pub links : is_directory tree node ≡ false → count_of tree.rows node ≡ count_of other.rows node
  pub bytes : is_directory tree node ≡ false → bytes_of tree node ≡ bytes_of other node
  pub rows : is_directory tree node ≡ true → SameRows tree other node
  pub kinds : is_directory tree node ≡ true → SameKindsIn tree other node

-- The trees agree on what a core's call reads.
abbrev pub Agree : TreeState → TreeState → ℕ → Call → Type 0
Agree tree other core (call.Look directory name) =
    SamePlace tree other directory.0 name × ((child : ℕ) → row_of tree directory.0 name ≡ Some child → SameKind tree other child)
Agree tree other core (call.Make directory name kind) = SamePlace tree other directory.0 name × SameNumbers tree other core
Agree tree other core (call.Link file directory name) =
    SamePlace tree other directory.0 name × SameNode tree other file.0
    × (is_directory tree file.0 ≡ false → count_of tree.rows file.0 ≡ count_of other.rows file.0)
Agree tree other core (call.Unlink directory name) =
    SamePlace tree other directory.0 name × ((child : ℕ) → row_of tree directory.0 name ≡ Some child → SameKind tree other child)
Agree tree other core (call.Rmdir directory name) =
    SamePlace tree other directory.0 name × ((child : ℕ) → row_of tree directory.0 name ≡ Some child → SameKind tree other child)
    × ((child : ℕ) → row_of tree directory.0 name ≡ Some child → is_directory tree child ≡ true → SameCount tree other child)
Agree tree other core (call.Rename directory name to_directory to_name) = SameMove tree other directory.0 name to_directory.0 to_name
Agree tree other core (call.Write file at bytes) = SameNode tree other file.0
Agree tree other core (call.Read file at count) = SameNode tree other file.0 × (bytes_of tree file.0 ≡ bytes_of other file.0)
Agree tree other core (call.Trunc file size) = SameNode tree other file.0
Agree tree other core (call.Stat node) = SameStat tree other node.0
Agree tree other core (call.List directory) = SameNode tree other directory.0 × SameRows tree other directory.0 × SameKindsIn tree other directory.0
Agree tree other core (call.Fsync node) = SameNode tree other node.0
