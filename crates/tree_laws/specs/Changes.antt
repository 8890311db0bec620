-- The own changes of directories and files, and what they had at a stamp.
use Rattle.std.specs.Prelude.{ℕ, ◌==◌, Bool, true, false, ◌&&◌, List, [], ◌∷◌, ◌++◌, Option, Some, None, nat_lt, filter, fold, if◌then◌else◌}
use Rattle.std.specs.FinMap.{FinMap, insert, remove}
use Rattle.tree_laws.specs.declared.history.Entry.{Entry}
use Rattle.tree_laws.specs.Order.{name_cmp}
use Rattle.tree_laws.specs.Tree.{TreeState, row_of, is_directory, names_of, bytes_of}
use Rattle.tree_laws.specs.Effect.{Effect, Stays, Adds, Removes, Moves, Edits, Edit, edited}
use Rattle.tree_laws.specs.Verdict.{verdict}
use Rattle.tree_laws.specs.History.{tree_after_entry}

-- A change of a directory: a row that an entry adds to it or removes from it. Where a rename between two directories makes it, it is
-- two-sided, and the other directory is named. It places the child where it adds a row. It ends the child where that is a
-- directory whose row goes by Rmdir or as what a rename replaces.
pub record RowChange : Type 0 where
  pub stamp : ℕ
  pub directory : ℕ
  pub name : List ℕ
  pub child : ℕ
  pub places : Bool
  pub other : Option ℕ
  pub ends : Bool

-- a row that comes
abbrev pub added : ℕ → ℕ → List ℕ → ℕ → Option ℕ → RowChange
added stamp directory name child other = record {
  stamp = stamp;
  directory = directory;
  name = name;
  child = child;
  places = true;
  other = other;
  ends = false;
}

-- a row that goes
abbrev pub removed : ℕ → ℕ → List ℕ → ℕ → Option ℕ → Bool → RowChange
removed stamp directory name child other ends = record {
  stamp = stamp;
  directory = directory;
  name = name;
  child = child;
  places = false;
  other = other;
  ends = ends;
}

-- the other one of two directories of a rename, where they are two
abbrev pub other_side : ℕ → ℕ → Option ℕ
other_side directory other = if directory == other then None else Some other

-- what a rename replaces goes, where something stands there
abbrev pub replaced : TreeState → ℕ → ℕ → ℕ → List ℕ → Option ℕ → List RowChange
replaced tree stamp directory to_directory to_name None = []
replaced tree stamp directory to_directory to_name (Some there) =
    removed stamp to_directory to_name there (other_side to_directory directory) (is_directory tree there) ∷ []

-- the changes that an effect makes in a tree: rows that go, and then rows that come
abbrev pub changes_by : TreeState → ℕ → Effect → List RowChange
changes_by tree stamp Stays = []
changes_by tree stamp (Adds directory name child) = added stamp directory name child None ∷ []
changes_by tree stamp (Removes directory name child) = removed stamp directory name child None (is_directory tree child) ∷ []
changes_by tree stamp (Moves directory name to_directory to_name child) =
    replaced tree stamp directory to_directory to_name (row_of tree to_directory to_name)
    ++ removed stamp directory name child (other_side directory to_directory) false
    ∷ added stamp to_directory to_name child (other_side to_directory directory)
    ∷ []
changes_by tree stamp (Edits file edit) = []

-- the changes of a history, in stamp order
abbrev pub changes_of : TreeState → List Entry → List RowChange
changes_of first [] = []
changes_of first (entry ∷ history) =
    changes_by first entry.stamp.0 (verdict first entry.core.0 entry.call).effect ++ changes_of (tree_after_entry first entry) history

-- whether a change is this directory's and has a stamp below this one
abbrev pub is_own_below : ℕ → ℕ → RowChange → Bool
is_own_below directory stamp change = nat_lt change.stamp stamp && change.directory == directory

-- rows with a change made
abbrev pub with_change : FinMap name_cmp ℕ → RowChange → FinMap name_cmp ℕ
with_change rows change = if change.places then insert rows change.name change.child else remove rows change.name

-- a directory's rows at a stamp: those of the first tree, with its own changes below the stamp made
abbrev pub rows_at : TreeState → List Entry → ℕ → ℕ → FinMap name_cmp ℕ
rows_at first history directory stamp =
    fold with_change (names_of directory first.rows) (filter (is_own_below directory stamp) (changes_of first history))

-- a change of a file: a write of at least one byte or a truncation that was answered Ok
pub record FileChange : Type 0 where
  pub stamp : ℕ
  pub file : ℕ
  pub edit : Edit

-- the change of a file that an effect makes
abbrev pub edits_by : ℕ → Effect → List FileChange
edits_by stamp (Edits file edit) = record { stamp = stamp; file = file; edit = edit } ∷ []
edits_by stamp _ = []

-- the changes of files in a history, in stamp order
abbrev pub edits_of : TreeState → List Entry → List FileChange
edits_of first [] = []
edits_of first (entry ∷ history) =
    edits_by entry.stamp.0 (verdict first entry.core.0 entry.call).effect ++ edits_of (tree_after_entry first entry) history

-- whether a change is this file's and has a stamp below this one
abbrev pub is_edit_below : ℕ → ℕ → FileChange → Bool
is_edit_below file stamp change = nat_lt change.stamp stamp && change.file == file

-- a file's bytes at a stamp: those of the first tree, or none where the history made it, with its own changes below the stamp made
abbrev pub bytes_at : TreeState → List Entry → ℕ → ℕ → List ℕ
bytes_at first history file stamp =
    fold (λ bytes change. edited change.edit bytes) (bytes_of first file) (filter (is_edit_below file stamp) (edits_of first history))
