-- A core in the middle of a call.
use Rattle.std.specs.Prelude.{◌≡◌, ℕ, ◌+◌, ◌<◌, true, [], ◌∷◌, ◌++◌, Option, Some, length, reverse}
use mathlib.Core.List.{IsPrefix}
use Rattle.disk_nodes.specs.OldKept.{OldKept}
use Rattle.sfs_base.specs.declared.numbers.NodeId.{NodeId}
use Rattle.tree_laws.specs.Tree.{TreeState}
use Rattle.tree_laws.specs.History.{tree_after, IsLegal}
use Rattle.stamp_table.specs.Events.{calls_in}
use Rattle.stamp_table.specs.declared.held.HeldCell.{HeldCell}
use Rattle.stamp_table.specs.Hand.{places_of}
use Rattle.stamp_table.specs.Ascending.{Falls}
use Rattle.mem_values.specs.Start.{FileHand, FileState}
use Rattle.mem_values.specs.declared.cell.Cell.{Cell}
use Rattle.mem_values.specs.declared.cell.Cell.TheVariants as cell
use Rattle.mem_values.specs.declared.cell_id.CellId.{CellId}
use Rattle.mem_values.specs.declared.cell_id.CellId.TheVariants as id
use Rattle.mem_values.specs.Places.{cell_place}
use Rattle.mem_values.specs.Laws.{KnowsCells, MayMeet}
use Rattle.mem_calls.specs.Held.{value_held, stands_held, CanMeet}

-- A core of a table in the middle of a call; the values of the cells that it holds stand for what it has seen. An fsync of it may wait for
-- its answer: only who stamps asks that none does.
pub record IsWorking (given : ℕ → Option OldKept) (t : FileState) (hand : FileHand) : Type 0 where
  pub table : hand.table ≡ t.table
  pub first : hand.view.first ≡ t.first
  pub core : hand.view.core < length t.first.made
  pub places : hand.view.held ≡ reverse (places_of hand.held)
  pub falls : Falls hand.view.held
  pub knows : KnowsCells given hand.view hand.held

-- A core has held cells or let some go, and made no call. It may have seen more of the history.
pub record WorksOn (before after : FileHand) : Type 0 where
  pub frame : record after { view = before.view; held = before.held; room = before.room } ≡ before
  pub view : record after.view { seen = before.view.seen; held = before.view.held } ≡ before.view
  pub seen : IsPrefix before.view.seen after.view.seen
  pub room : after.room + length after.held ≡ before.room + length before.held

-- a value of the kind that a cell has
abbrev pub IsOfKind : CellId → Cell → Type 0
IsOfKind id.Lock (cell.Lock lock) = Unit {0}
IsOfKind (id.Bucket node number) (cell.Bucket bucket) = Unit {0}
IsOfKind (id.File node) (cell.File file) = Unit {0}
IsOfKind (id.Pending node) (cell.Pending pending) = Unit {0}
IsOfKind (id.Part core) (cell.Part part) = Unit {0}
IsOfKind _ _ = ⊥

-- A core still holds what it held: each value is the same, and a tree that it may meet now it could meet before.
pub record StillHolds (nodes : ℕ) (before after : FileHand) : Type 0 where
  pub values : (which : CellId) (value : Cell) → value_held nodes before.held which ≡ Some value → value_held nodes after.held which ≡ Some value
  pub trees : (tree : TreeState) → MayMeet after.view after.held tree → MayMeet before.view before.held tree

-- A core holds one cell more, which lies above the others. The tree after all that it has seen is one that it may meet.
pub record Gains (nodes : ℕ) (which : CellId) (before after : FileHand) : Type 0 where
  pub on : WorksOn before after
  pub still : StillHolds nodes before after
  pub held : (last : HeldCell Cell) × (after.held ≡ before.held ++ last ∷ []) × (last.place ≡ cell_place nodes which)
  pub top : after.view.held ≡ cell_place nodes which ∷ before.view.held
  pub room : after.room + 1 ≡ before.room
  pub met : CanMeet after
  pub there : (value : Cell) × (value_held nodes after.held which ≡ Some value) × IsOfKind which value
  pub legal : IsLegal after.view.first (calls_in after.view.seen)
  pub seen_met : MayMeet after.view after.held (tree_after after.view.first (calls_in after.view.seen))

-- A bucket of a node is held: there is a tree that the core may meet, and where the node stands by the bucket no other cell was taken.
pub record TookBucket (nodes : ℕ) (node : NodeId) (number : ℕ) (before after : FileHand) : Type 0 where
  pub met : CanMeet after
  pub top : stands_held nodes after.held node number ≡ true → after.view.held ≡ cell_place nodes (id.Bucket node number) ∷ before.view.held
