-- What a call changes of rows where it is not refused.
use Rattle.std.specs.Prelude.{◌≡◌, ◌≢◌, ℕ, true, List, Option, Some, None, IsSome, Vec, if◌then◌else◌}
use Rattle.std.specs.declared.alloc.Global.{Global}
use Rattle.std.specs.FinMap.{len}
use Rattle.tree_laws.specs.declared.call.Call.{Call}
use Rattle.tree_laws.specs.declared.call.Call.TheVariants as call
use Rattle.tree_laws.specs.Tree.{TreeState, row_of, is_directory, is_alive, walk_up}
use Rattle.tree_laws.specs.Effect.{Effect, Stays, Adds, Removes, Moves}
use Rattle.tree_laws.specs.Verdict.{names_child}
use Rattle.flush_core.specs.declared.past.OwnChange.{OwnChange}
use Rattle.cut_laws.specs.Rules.{IsOneOf}
use Rattle.flush_core.specs.Past.{KeepsAbove}

-- a row goes, where it is there
abbrev pub removal : ℕ → List ℕ → Option ℕ → Effect
removal directory name None = Stays
removal directory name (Some child) = Removes directory name child

-- the child of a row moves to another row, where the row is there and the other does not name the child already
abbrev pub moving : TreeState → ℕ → List ℕ → ℕ → List ℕ → Option ℕ → Effect
moving tree directory name to_directory to_name None = Stays
moving tree directory name to_directory to_name (Some child) =
    if names_child (row_of tree to_directory to_name) child then Stays else Moves directory name to_directory to_name child

-- what a call changes of rows where it is not refused, but for the making of a node
abbrev pub plan_of : TreeState → Call → Effect
plan_of tree (call.Link file directory name) = Adds directory.0 name file.0
plan_of tree (call.Unlink directory name) = removal directory.0 name (row_of tree directory.0 name)
plan_of tree (call.Rmdir directory name) = removal directory.0 name (row_of tree directory.0 name)
plan_of tree (call.Rename directory name to_directory to_name) = moving tree directory.0 name to_directory.0 to_name (row_of tree directory.0 name)
plan_of tree _ = Stays

-- Of each of some changes whose directory is a live one the directories above are kept.
abbrev pub KeepAllAbove : TreeState → List OwnChange → Type 0
KeepAllAbove tree changes =
    (change : OwnChange) → IsOneOf changes change → is_directory tree change.directory ≡ true → is_alive tree change.directory ≡ true → KeepsAbove tree change

-- The directories above the new directory of a child are there exactly where the child is a directory that moves between two.
pub record IsAboveNew (tree : TreeState) (directory to_directory child : ℕ) (above : Option (Vec ℕ Global)) : Type 0 where
  pub two : (v : _) → above ≡ Some v → directory ≢ to_directory
  pub kind : (v : _) → above ≡ Some v → is_directory tree child ≡ true
  pub walk : (v : Vec ℕ Global) → above ≡ Some v → v.items ≡ walk_up (len tree.rows) tree to_directory
  pub there : directory ≢ to_directory → is_directory tree child ≡ true → is_directory tree to_directory ≡ true → IsSome above
