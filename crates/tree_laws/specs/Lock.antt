-- Renames that move a directory to another one, and what a tree lock keeps still while it is held.
use Rattle.std.specs.Prelude.{◌≡◌, ℕ, ◌==◌, Bool, true, false, not, ◌&&◌, List, [], ◌∷◌, Option, Some, None, if◌then◌else◌}
use Rattle.tree_laws.specs.declared.call.Call.{Call}
use Rattle.tree_laws.specs.Tree.{TreeState, is_alive, is_directory, holder_of}
use Rattle.tree_laws.specs.Effect.{Effect, Stays, Adds, Removes, Moves, Edits}
use Rattle.tree_laws.specs.Verdict.{verdict}

-- whether an effect moves a directory from one directory to another
abbrev pub moves_between : TreeState → Effect → Bool
moves_between tree Stays = false
moves_between tree (Adds directory name child) = false
moves_between tree (Removes directory name child) = false
moves_between tree (Moves directory name to_directory to_name child) = not (directory == to_directory) && is_directory tree child
moves_between tree (Edits file edit) = false

-- whether a core's call moves a directory from one directory to another: such a call is made under the tree lock
abbrev pub needs_lock : TreeState → ℕ → Call → Bool
needs_lock tree core c = moves_between tree (verdict tree core c).effect

-- where a directory stands: its holder, and nothing for what is no directory
abbrev pub stands_of : TreeState → ℕ → Option ℕ
stands_of tree node = if is_directory tree node then holder_of tree node else None

-- A directory, and its holder where it is alive.
pub record IsHolder (tree : TreeState) (node holder : ℕ) : Type 0 where
  pub kind : is_directory tree node ≡ true
  pub held : is_alive tree node ≡ true → holder_of tree node ≡ Some holder

-- Each directory of a list is the holder of the one before it; the first is that of the node.
abbrev pub AreHolders : TreeState → ℕ → List ℕ → Type 0
AreHolders tree node [] = Unit {0}
AreHolders tree node (holder ∷ holders) = IsHolder tree node holder × AreHolders tree holder holders

-- such a list ends at the root
abbrev pub EndsAtRoot : ℕ → List ℕ → Type 0
EndsAtRoot node [] = node ≡ 0
EndsAtRoot node (holder ∷ holders) = EndsAtRoot holder holders
