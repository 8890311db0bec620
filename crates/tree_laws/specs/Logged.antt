-- What a log keeps of an entry: the changes of rows that its effect makes, each with its child's kind and, where a rename between two
-- directories puts a directory, with the directories above the one into which it is put.
use Rattle.std.specs.Prelude.{ℕ, ◌==◌, Bool, true, false, not, ◌&&◌, ◌||◌, is_none, is_some, bytes_eq, List, [], ◌∷◌, ◌++◌, Option, Some, None, option_map, filter, map, if◌then◌else◌}
use Rattle.std.specs.List.{list_any}
use Rattle.std.specs.FinMap.{len}
use Rattle.sfs_base.specs.declared.numbers.NodeId.{NodeId}
use Rattle.sfs_base.specs.declared.numbers.Kind.{Kind}
use Rattle.tree_laws.specs.declared.changes.Act.{Act}
use Rattle.tree_laws.specs.declared.changes.Act.TheVariants.{Add, Remove}
use Rattle.tree_laws.specs.declared.changes.Change.{Change}
use Rattle.tree_laws.specs.Tree.{TreeState, is_directory_kind, row_of, kind_of, walk_up}
use Rattle.tree_laws.specs.Effect.{Effect, Stays, Adds, Removes, Moves, Edits}
use Rattle.tree_laws.specs.Parts.{kind_after}
use Rattle.tree_laws.specs.Changes.{RowChange, other_side}
use Rattle.tree_laws.specs.Lock.{moves_between}

-- whether an act adds a row
abbrev pub is_addition : Act → Bool
is_addition Add = true
is_addition Remove = false

-- a node by its number
abbrev pub numbered_node : ℕ → NodeId
numbered_node number = record { 0 = number }

-- a change as a log keeps it
abbrev pub log_entry : ℕ → ℕ → List ℕ → ℕ → Kind → Act → Option ℕ → List ℕ → Change
log_entry stamp directory name child kind act other above = record {
  stamp = record { 0 = stamp };
  dir = numbered_node directory;
  name = name;
  child = numbered_node child;
  kind = kind;
  act = act;
  other = option_map numbered_node other;
  above = above;
}

-- what a rename replaces goes, where something stands there
abbrev pub logged_replaced : TreeState → ℕ → ℕ → ℕ → List ℕ → Option ℕ → List Change
logged_replaced tree stamp directory to_directory to_name None = []
logged_replaced tree stamp directory to_directory to_name (Some there) =
    log_entry stamp to_directory to_name there (kind_of tree there) Remove (other_side to_directory directory) [] ∷ []

-- the directories above the one into which a move between two directories puts a directory; none for any other effect
abbrev pub recorded_above : TreeState → Effect → ℕ → List ℕ
recorded_above tree effect to_directory = if moves_between tree effect then walk_up (len tree.rows) tree to_directory else []

-- The changes that an effect of a core logs in a tree, where a node of this kind is made or none: rows that go, and then rows that come.
abbrev pub logged_by : TreeState → ℕ → ℕ → Effect → Option Kind → List Change
logged_by tree core stamp Stays makes = []
logged_by tree core stamp (Adds directory name child) makes =
    log_entry stamp directory name child (kind_after tree core makes child) Add None [] ∷ []
logged_by tree core stamp (Removes directory name child) makes =
    log_entry stamp directory name child (kind_of tree child) Remove None [] ∷ []
logged_by tree core stamp (Moves directory name to_directory to_name child) makes =
    logged_replaced tree stamp directory to_directory to_name (row_of tree to_directory to_name)
    ++ log_entry stamp directory name child (kind_of tree child) Remove (other_side directory to_directory) []
    ∷ log_entry stamp to_directory to_name child (kind_of tree child) Add (other_side to_directory directory)
    (recorded_above tree (Moves directory name to_directory to_name child) to_directory)
    ∷ []
logged_by tree core stamp (Edits file edit) makes = []

-- the directories that a change has to tell: those above its own, where it adds a directory that comes from another one
abbrev pub above_due : TreeState → Change → List ℕ
above_due tree change =
    if is_addition change.act && is_some change.other && is_directory_kind change.kind then walk_up (len tree.rows) tree change.dir.0 else []

-- whether a logged change is one of this directory
abbrev pub is_logged_in : ℕ → Change → Bool
is_logged_in directory change = change.dir.0 == directory

-- whether a logged change adds a row, and of this name
abbrev pub adds_any : Change → Bool
adds_any change = is_addition change.act

abbrev pub adds_name : List ℕ → Change → Bool
adds_name name change = is_addition change.act && bytes_eq name change.name

-- Whether a logged change ends its child, read off the changes of its directory at that stamp: a directory's row goes, and either a
-- row of that name comes in its place, or no row comes and it did not go to another directory.
abbrev pub is_end_of : List Change → Change → Bool
is_end_of own change =
    not (is_addition change.act) && is_directory_kind change.kind
    && (list_any (adds_name change.name) own || (is_none change.other && not (list_any adds_any own)))

-- the change of a row that a logged change is, by the changes of its entry
abbrev pub erased : List Change → Change → RowChange
erased entry change = record {
  stamp = change.stamp.0;
  directory = change.dir.0;
  name = change.name;
  child = change.child.0;
  places = is_addition change.act;
  other = option_map (λ node. node.0) change.other;
  ends = is_end_of (filter (is_logged_in change.dir.0) entry) change;
}

-- an entry's changes of rows, by what was logged of it
abbrev pub erased_entry : List Change → List RowChange
erased_entry entry = map (erased entry) entry
