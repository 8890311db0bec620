-- What the machine keeps of its calls, and when it is what it has to be.
use Rattle.std.specs.Prelude.{◌≡◌, ℕ, List, map, take, Some}
use Rattle.tree_laws.specs.declared.history.Entry.{Entry}
use Rattle.tree_laws.specs.Tree.{TreeState}
use Rattle.tree_laws.specs.Sound.{Above}
use Rattle.tree_laws.specs.Changes.{RowChange, changes_of}
use Rattle.tree_laws.specs.History.{tree_after}
use Rattle.flush_core.specs.declared.past.OwnChange.{OwnChange}
use Rattle.flush_core.specs.declared.past.BornNode.{BornNode}
use Rattle.flush_core.specs.declared.past.Past.{Past}
use Rattle.cut_laws.specs.Rules.{IsOneOf, Birth, births_of, MovesDirectory}

-- the change that is kept
abbrev pub row_change_of : OwnChange → RowChange
row_change_of change = record {
  stamp = change.stamp;
  directory = change.directory;
  name = change.name;
  child = change.child;
  places = change.places;
  other = change.other;
  ends = change.ends;
}

-- the birth that is kept
abbrev pub birth_of : BornNode → Birth
birth_of born = record { stamp = born.stamp; directory = born.directory; node = born.node }

-- The directories above are kept of a change exactly where it places a directory of a tree by a rename between two; they are those
-- that stand above the changed one there.
pub record KeepsAbove (tree : TreeState) (change : OwnChange) : Type 0 where
  pub moves : (v : _) → change.above ≡ Some v → MovesDirectory tree (row_change_of change)
  pub stand : (v : _) → change.above ≡ Some v → Above tree change.directory v.items
  pub all : MovesDirectory tree (row_change_of change) → (above : List ℕ) → Above tree change.directory above
      → (v : _) × (change.above ≡ Some v) × (v.items ≡ above)

-- The past of a history: its tree, its changes and its births; of each change the directories above are kept as they stood at its stamp.
pub record IsPast (first : TreeState) (history : List Entry) (past : Past) : Type 0 where
  pub tree : past.tree ≡ tree_after first history
  pub changes : map row_change_of past.changes.items ≡ changes_of first history
  pub births : map birth_of past.births.items ≡ births_of first history
  pub above : (change : OwnChange) → IsOneOf past.changes.items change → KeepsAbove (tree_after first (take change.stamp history)) change
