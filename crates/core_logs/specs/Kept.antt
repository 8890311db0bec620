-- What the logs of all cores keep of a history.
use Rattle.std.specs.Prelude.{◌≡◌, ◌⊎◌, ℕ, ◌==◌, ◌<◌, ◌≤◌, Bool, true, List, [], ◌∷◌, ◌++◌, length, count_by, if◌then◌else◌}
use Rattle.std.specs.List.{All}
use Rattle.std.specs.BTreeSet.{contains}
use Rattle.std.specs.Ordering.{nat_cmp}
use Rattle.tree_laws.specs.declared.changes.Change.{Change}
use Rattle.tree_laws.specs.declared.history.Entry.{Entry}
use Rattle.tree_laws.specs.Tree.{TreeState}
use Rattle.tree_laws.specs.Verdict.{verdict}
use Rattle.tree_laws.specs.History.{tree_after_entry}
use Rattle.tree_laws.specs.Logged.{logged_by}
use Rattle.mem_cells.specs.Part.{changes_kept, mark_kept}
use Rattle.mem_cells.specs.Laws.{IsLeftOf}
use Rattle.cut_laws.specs.Cut.{Cut, cut_of}
use Rattle.core_logs.specs.Logs.{Logs, part_of}

-- whether an entry is this core's
abbrev pub is_entry_of : ℕ → Entry → Bool
is_entry_of core entry = entry.core.0 == core

-- the changes that an entry logs in a tree
abbrev pub logged_in_tree : TreeState → Entry → List Change
logged_in_tree tree entry =
    logged_by tree entry.core.0 entry.stamp.0 (verdict tree entry.core.0 entry.call).effect (verdict tree entry.core.0 entry.call).makes

-- the changes that one core's entries of a history log, in their order
abbrev pub logged_of_core : ℕ → TreeState → List Entry → List Change
logged_of_core core first [] = []
logged_of_core core first (entry ∷ history) =
    (if is_entry_of core entry then logged_in_tree first entry else []) ++ logged_of_core core (tree_after_entry first entry) history

-- The logs keep of a history what is not flushed at a cut: each entry is of one of the cores; each core's log has what is left of the changes
-- of its own entries; no mark is above its directory's cut; and each directory of which there is a change is listed.
pub record KeepsUnflushed (first : TreeState) (history : List Entry) (cut : Cut) (logs : Logs) : Type 0 where
  pub cores : All (λ entry. entry.core.0 < length logs.parts) history
  pub left : (core : ℕ) → core < length logs.parts → IsLeftOf (logged_of_core core first history) (count_by (is_entry_of core) history) (part_of logs core)
  pub marks : (core directory : ℕ) → core < length logs.parts → mark_kept (part_of logs core) directory ≤ cut_of cut directory
  pub listed : (core directory : ℕ) → core < length logs.parts
      → (changes_kept (part_of logs core) directory ≡ []) ⊎ (contains nat_cmp logs.directories directory ≡ true)
