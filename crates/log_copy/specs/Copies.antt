-- Copies of a core's log that need not have all that it keeps.
use Rattle.std.specs.Prelude.{◌≡◌, ◌⊎◌, ℕ, Bool, true, List, [], map, All}
use Rattle.sfs_base.specs.declared.numbers.NodeId.{NodeId}
use Rattle.sfs_base.specs.Listed.{is_listed}
use Rattle.tree_laws.specs.NameRow.{node_number}
use Rattle.tree_laws.specs.declared.changes.Change.{Change}
use Rattle.cut_laws.specs.Rules.{IsOneOf}
use Rattle.mem_cells.specs.Part.{CoreLog, changes_kept}

-- whether a node is one of some
abbrev pub is_one_of : List NodeId → ℕ → Bool
is_one_of nodes node = is_listed (map node_number nodes) node

-- A copy of a log keeps what a look at some nodes asks for: of each directory all changes that the log keeps, or none of them; and all where the directory
-- is one of these nodes, or where the log keeps a change of it that names one.
pub record KeepsFor (looked_at : ℕ → Bool) (log copy : CoreLog) : Type 0 where
  pub each : (directory : ℕ) → (changes_kept copy directory ≡ changes_kept log directory) ⊎ (changes_kept copy directory ≡ [])
  pub own : (directory : ℕ) → looked_at directory ≡ true → changes_kept copy directory ≡ changes_kept log directory
  pub naming : (directory : ℕ) (change : Change) → IsOneOf (changes_kept log directory) change → looked_at change.child.0 ≡ true
      → changes_kept copy directory ≡ changes_kept log directory

-- Each change that a log keeps of a directory is one of this directory.
abbrev pub KeepsOwn : CoreLog → Type 0
KeepsOwn log = (directory : ℕ) → All (λ change. change.dir.0 ≡ directory) (changes_kept log directory)
