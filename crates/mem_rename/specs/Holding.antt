-- Cells that a rename holds.
use Rattle.std.specs.Prelude.{◌≡◌, ◌⊎◌, ℕ, ◌+◌, ◌*◌, ◌<◌, ◌≤◌, Bool, true, ◌&&◌, nat_lt, if◌then◌else◌, List, [], ◌∷◌, Option, Some, None}
use Rattle.stamp_table.specs.declared.held.HeldCell.{HeldCell}
use Rattle.stamp_table.specs.Ascending.{LiesAbove}
use Rattle.cut_laws.specs.Rules.{IsOneOf}
use Rattle.mem_values.specs.Start.{FileHand}
use Rattle.mem_values.specs.declared.cell.Cell.{Cell}
use Rattle.mem_values.specs.declared.cell_id.CellId.{CellId}
use Rattle.mem_values.specs.declared.cell_id.CellId.TheVariants as id
use Rattle.mem_values.specs.Places.{cell_place}
use Rattle.mem_calls.specs.Held.{value_held}
use Rattle.mem_calls.specs.Working.{WorksOn, StillHolds, IsOfKind}
use Rattle.mem_rename.specs.Ways.{HasMet}

-- a bucket or a file of a table of so many nodes
abbrev pub IsTreeCell : ℕ → CellId → Type 0
IsTreeCell nodes (id.Bucket node number) = (node.0 < nodes) × (number < 8)
IsTreeCell nodes (id.File node) = node.0 < nodes
IsTreeCell nodes _ = ⊥

-- each of these is a bucket or a file of a table of so many nodes
abbrev pub AreTreeCells : ℕ → List CellId → Type 0
AreTreeCells nodes [] = Unit {0}
AreTreeCells nodes (cell ∷ cells) = IsTreeCell nodes cell × AreTreeCells nodes cells

-- whether a place lies before that of a cell, where there is one
abbrev pub is_before : ℕ → ℕ → Option CellId → Bool
is_before nodes place None = true
is_before nodes place (Some cell) = nat_lt place (cell_place nodes cell)

-- of a cell that may be there and another one the one that is nearer above a place
abbrev pub nearer : ℕ → ℕ → Option CellId → CellId → Option CellId
nearer nodes last next cell = if nat_lt last (cell_place nodes cell) && is_before nodes (cell_place nodes cell) next then Some cell else next

-- a cell lies above a place, and of some cells that do none lies before it
pub record IsLeastAbove (nodes last : ℕ) (cells : List CellId) (next : CellId) : Type 0 where
  pub among : IsOneOf cells next
  pub above : last < cell_place nodes next
  pub least : (cell : CellId) → IsOneOf cells cell → (cell_place nodes cell ≤ last) ⊎ (cell_place nodes next ≤ cell_place nodes cell)

-- The least of some cells that lies above a place, where there is one.
abbrev pub IsNextAbove : ℕ → ℕ → List CellId → Option CellId → Type 0
IsNextAbove nodes last cells (Some next) = IsLeastAbove nodes last cells next
IsNextAbove nodes last cells None = (cell : CellId) → IsOneOf cells cell → cell_place nodes cell ≤ last

-- a cell is held, with a value of its kind
abbrev pub HoldsCell : ℕ → List (HeldCell Cell) → CellId → Type 0
HoldsCell nodes held cell = (value : Cell) × (value_held nodes held cell ≡ Some value) × IsOfKind cell value

-- each of these cells is held, with a value of its kind
abbrev pub HoldsCells : ℕ → List (HeldCell Cell) → List CellId → Type 0
HoldsCells nodes held cells = (cell : CellId) → IsOneOf cells cell → HoldsCell nodes held cell

-- A core holds these cells more, and still those that it held; all lie below the logs. Where there are such cells, it may meet the tree that it
-- has seen.
pub record HoldsAsked (nodes : ℕ) (cells : List CellId) (before after : FileHand) : Type 0 where
  pub on : WorksOn before after
  pub still : StillHolds nodes before after
  pub holds : HoldsCells nodes after.held cells
  pub below : LiesAbove (32 + 10 * nodes) after.view.held
  pub met : (cell : CellId) → IsOneOf cells cell → HasMet after
