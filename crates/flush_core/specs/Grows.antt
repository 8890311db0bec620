-- What a call adds to the past.
use Rattle.std.specs.Prelude.{◌≡◌, ℕ, List, [], ◌∷◌, ◌++◌, map, None}
use Rattle.tree_laws.specs.declared.history.Entry.{Entry}
use Rattle.tree_laws.specs.Changes.{added, changes_by}
use Rattle.tree_laws.specs.Verdict.{verdict}
use Rattle.tree_laws.specs.History.{tree_after_entry}
use Rattle.flush_core.specs.declared.past.OwnChange.{OwnChange}
use Rattle.flush_core.specs.declared.past.Past.{Past}
use Rattle.cut_laws.specs.Rules.{births_by}
use Rattle.flush_core.specs.Past.{row_change_of, birth_of}
use Rattle.flush_core.specs.Plan.{KeepAllAbove}

-- A past with a call more: the tree after it, and its changes and births behind the others; the directories above are noted of the new
-- changes.
pub record Grows (old : Past) (entry : Entry) (new : Past) : Type 0 where
  pub tree : new.tree ≡ tree_after_entry old.tree entry
  pub more : List OwnChange
  pub changes : new.changes.items ≡ old.changes.items ++ more
  pub own : map row_change_of more ≡ changes_by old.tree entry.stamp.0 (verdict old.tree entry.core.0 entry.call).effect
  pub noted : KeepAllAbove old.tree more
  pub births : map birth_of new.births.items
      ≡ map birth_of old.births.items
      ++ births_by entry.stamp.0 (verdict old.tree entry.core.0 entry.call).effect (verdict old.tree entry.core.0 entry.call).makes

-- A past with the making of a node more.
pub record HasBirth (old new : Past) (stamp directory : ℕ) (name : List ℕ) (node : ℕ) : Type 0 where
  pub tree : new.tree ≡ old.tree
  pub change : OwnChange
  pub changes : new.changes.items ≡ old.changes.items ++ change ∷ []
  pub row : row_change_of change ≡ added stamp directory name node None
  pub above : change.above ≡ None
  pub births : map birth_of new.births.items ≡ map birth_of old.births.items ++ record { stamp = stamp; directory = directory; node = node } ∷ []
