-- What a core sees while it counts.
use Rattle.std.specs.Prelude.{◌≡◌, ◌<◌, ◌≤◌, ℕ, length}
use mathlib.Core.List.{IsPrefix}
use Rattle.tree_laws.specs.History.{tree_after}
use Rattle.tree_laws.specs.Tree.{TreeState, bytes_of}
use Rattle.tree_totals.specs.Totals.{LONGEST_FILE}
use Rattle.stamp_table.specs.Events.{calls_in}
use Rattle.stamp_table.specs.Table.{IsBetweenCalls}
use Rattle.mem_values.specs.Start.{FileHand, FileState}

-- the tree after all calls that a core has seen
abbrev pub tree_seen : FileHand → TreeState
tree_seen hand = tree_after hand.view.first (calls_in hand.view.seen)

-- between two moments of a core no call has come to what it has seen
abbrev pub SawNoCall : FileHand → FileHand → Type 0
SawNoCall before after = calls_in after.view.seen ≡ calls_in before.view.seen

-- A core has seen more of the history, and nothing else of it is different.
pub record SawOn (before after : FileHand) : Type 0 where
  pub frame : record after { view = before.view } ≡ before
  pub view : record after.view { seen = before.view.seen } ≡ before.view
  pub seen : IsPrefix before.view.seen after.view.seen

-- The same, but that there may be room for more entries and cells.
pub record OnlySaw (before after : FileHand) : Type 0 where
  pub frame : record after { view = before.view; spare = before.spare; room = before.room } ≡ before
  pub view : record after.view { seen = before.view.seen } ≡ before.view
  pub seen : IsPrefix before.view.seen after.view.seen

-- A core between two calls that has room for a cell.
pub record MayCount (t : FileState) (hand : FileHand) : Type 0 where
  pub between : IsBetweenCalls t hand
  pub room : 0 < hand.room

-- no file of a tree is longer than a file may be
abbrev pub HasNoLongFile : TreeState → Type 0
HasNoLongFile tree = (node : ℕ) → length (bytes_of tree node) ≤ LONGEST_FILE
