-- What a call does by itself, and what it touches.
use Rattle.std.specs.Prelude.{◌≡◌, ◌≢◌, ◌⊎◌, ℕ, ◌==◌, Bool, false, not, ◌&&◌, ◌||◌, List, Option, Some, None, IsSome, option_map, if◌then◌else◌}
use Rattle.std.specs.Option.{option_map_or}
use Rattle.std.specs.Ordering.{eq_by_cmp}
use Rattle.sfs_base.specs.declared.numbers.Kind.{Kind}
use Rattle.tree_laws.specs.declared.call.Call.{Call}
use Rattle.tree_laws.specs.declared.call.Call.TheVariants as call
use Rattle.tree_laws.specs.Order.{key_cmp}
use Rattle.tree_laws.specs.Tree.{TreeState, row_of, is_directory, next_number, names_where, bytes_of, count_of, kind_of, made_by}
use Rattle.tree_laws.specs.Parts.{is_in_part, is_this}
use Rattle.std.specs.FinMap.{get}
use Rattle.tree_laws.specs.Effect.{Effect, Stays, Adds, Removes, Moves, Edits, Puts, Resizes}
use Rattle.tree_laws.specs.Verdict.{Verdict, verdict, tree_after_call}

-- what a call does where nothing refuses it and something changes
abbrev pub own_effect : TreeState → ℕ → Call → Option Effect
own_effect tree core (call.Make directory name kind) = Some (Adds directory.0 name (next_number tree core))
own_effect tree core (call.Link file directory name) = Some (Adds directory.0 name file.0)
own_effect tree core (call.Unlink directory name) = option_map (Removes directory.0 name) (row_of tree directory.0 name)
own_effect tree core (call.Rmdir directory name) = option_map (Removes directory.0 name) (row_of tree directory.0 name)
own_effect tree core (call.Rename directory name to_directory to_name) =
    option_map (Moves directory.0 name to_directory.0 to_name) (row_of tree directory.0 name)
own_effect tree core (call.Write file at bytes) = Some (Edits file.0 (Puts at bytes))
own_effect tree core (call.Trunc file size) = Some (Edits file.0 (Resizes size))
own_effect tree core _ = None

-- the kind of the node that a call makes where nothing refuses it
abbrev pub own_kind : Call → Option Kind
own_kind (call.Make directory name kind) = Some kind
own_kind _ = None

-- a verdict by which nothing changes
pub record DoesNothing (v : Verdict) : Type 0 where
  pub effect : v.effect ≡ Stays
  pub makes : v.makes ≡ None

-- a verdict by which this happens, and a node of this kind is made or none
pub record DoesThis (own : Option Effect) (kind : Option Kind) (v : Verdict) : Type 0 where
  pub effect : own ≡ Some v.effect
  pub makes : kind ≡ v.makes

-- a call does nothing, or its own
abbrev pub DoesItsOwn : TreeState → ℕ → Call → Type 0
DoesItsOwn tree core c = DoesNothing (verdict tree core c) ⊎ DoesThis (own_effect tree core c) (own_kind c) (verdict tree core c)

-- whether a call is a rename that moves a directory from one directory to another
abbrev pub moves_directory_between : TreeState → Call → Bool
moves_directory_between tree (call.Rename directory name to_directory to_name) =
    not (directory.0 == to_directory.0) && option_map_or (is_directory tree) (row_of tree directory.0 name) false
moves_directory_between tree _ = false

-- whether two rows have one place
abbrev pub is_same_place : ℕ → List ℕ → ℕ → List ℕ → Bool
is_same_place directory name other other_name = eq_by_cmp key_cmp (directory, name) (other, other_name)

-- what a directory has at a name after an effect, from what each had before it
abbrev pub row_after : (ℕ → List ℕ → Option ℕ) → Effect → ℕ → List ℕ → Option ℕ
row_after rows Stays at name = rows at name
row_after rows (Adds directory other child) at name = if is_same_place at name directory other then Some child else rows at name
row_after rows (Removes directory other child) at name = if is_same_place at name directory other then None else rows at name
row_after rows (Moves directory other to_directory to_name child) at name =
    if is_same_place at name to_directory to_name then Some child else
    if is_same_place at name directory other then None else
    rows at name
row_after rows (Edits file edit) at name = rows at name

-- A call names this name in this directory.
abbrev pub IsNamedPlace : Call → ℕ → List ℕ → Type 0
IsNamedPlace (call.Look at name) directory other = (at.0 ≡ directory) × (name ≡ other)
IsNamedPlace (call.Make at name kind) directory other = (at.0 ≡ directory) × (name ≡ other)
IsNamedPlace (call.Link file at name) directory other = (at.0 ≡ directory) × (name ≡ other)
IsNamedPlace (call.Unlink at name) directory other = (at.0 ≡ directory) × (name ≡ other)
IsNamedPlace (call.Rmdir at name) directory other = (at.0 ≡ directory) × (name ≡ other)
IsNamedPlace (call.Rename at name to_directory to_name) directory other =
    ((at.0 ≡ directory) × (name ≡ other)) ⊎ ((to_directory.0 ≡ directory) × (to_name ≡ other))
IsNamedPlace _ directory other = ⊥

-- the file whose bytes a call puts or cuts
abbrev pub named_file : Call → Option ℕ
named_file (call.Write file at bytes) = Some file.0
named_file (call.Trunc file size) = Some file.0
named_file _ = None

-- whether a call may change the part of a directory that has the names which pass a test
abbrev pub touches_part : Call → ℕ → (List ℕ → Bool) → Bool
touches_part (call.Make at name kind) directory test = is_in_part directory test at.0 name
touches_part (call.Link file at name) directory test = is_in_part directory test at.0 name
touches_part (call.Unlink at name) directory test = is_in_part directory test at.0 name
touches_part (call.Rmdir at name) directory test = is_in_part directory test at.0 name
touches_part (call.Rename at name to_directory to_name) directory test =
    is_in_part directory test at.0 name || is_in_part directory test to_directory.0 to_name
touches_part _ directory test = false

-- whether a call may change a file's bytes
abbrev pub touches_bytes : Call → ℕ → Bool
touches_bytes (call.Write file at bytes) node = file.0 == node
touches_bytes (call.Trunc file size) node = file.0 == node
touches_bytes _ node = false

-- whether a call may change how many rows name a node
abbrev pub touches_links : TreeState → ℕ → Call → ℕ → Bool
touches_links tree core (call.Make directory name kind) node = next_number tree core == node
touches_links tree core (call.Link file directory name) node = file.0 == node
touches_links tree core (call.Unlink directory name) node = is_this node (row_of tree directory.0 name)
touches_links tree core (call.Rmdir directory name) node = is_this node (row_of tree directory.0 name)
touches_links tree core (call.Rename directory name to_directory to_name) node = is_this node (row_of tree to_directory.0 to_name)
touches_links tree core _ node = false

-- What a call does not touch it keeps: the rows of other parts of directories, the bytes of other files, how many rows name other
-- nodes, the kinds of the nodes that are there, and how many nodes other cores have made; and this core too, unless it makes one.
pub record KeepsRest (tree : TreeState) (core : ℕ) (c : Call) : Type 0 where
  pub rows : (directory : ℕ) (test : List ℕ → Bool) → touches_part c directory test ≡ false
      → names_where directory test (tree_after_call tree core c).rows ≡ names_where directory test tree.rows
  pub bytes : (node : ℕ) → touches_bytes c node ≡ false → bytes_of (tree_after_call tree core c) node ≡ bytes_of tree node
  pub links : (node : ℕ) → touches_links tree core c node ≡ false → count_of (tree_after_call tree core c).rows node ≡ count_of tree.rows node
  pub kinds : (node : ℕ) → IsSome (get tree.nodes node) → kind_of (tree_after_call tree core c) node ≡ kind_of tree node
  pub others : (other : ℕ) → other ≢ core → made_by (tree_after_call tree core c) other ≡ made_by tree other
  pub own : own_kind c ≡ None → made_by (tree_after_call tree core c) core ≡ made_by tree core
