-- The own log of a core that takes the changes of an entry.
use Rattle.std.specs.Prelude.{◌≡◌, ℕ, ◌-◌, ◌<◌, ◌≤◌, ◌^◌, List, Some, length, filter}
use Rattle.tree_laws.specs.declared.changes.Change.{Change}
use Rattle.tree_laws.specs.Logged.{is_logged_in}
use Rattle.mem_cells.specs.Log.{IsInOrder}
use Rattle.mem_cells.specs.Part.{changes_kept, room_kept, StandBehind, IsAddedTo}
use Rattle.stamp_table.specs.Table.{with_value}
use Rattle.mem_values.specs.Start.{FileHand}
use Rattle.mem_values.specs.declared.cell.Cell.{Cell}
use Rattle.mem_values.specs.declared.cell.PartCell.{PartCell}
use Rattle.mem_values.specs.declared.cell_id.CellId.TheVariants as id
use Rattle.mem_values.specs.Places.{cell_place}
use Rattle.mem_calls.specs.Held.{as_part, part_held}

-- A log has room for changes in order, none of which comes before one that it has, and counts fewer entries than it can.
pub record HasRoomFor (changes : List Change) (part : PartCell) : Type 0 where
  pub room : (directory : ℕ) → length (filter (is_logged_in directory) changes) ≤ room_kept part.log directory
  pub order : IsInOrder changes
  pub behind : StandBehind changes (changes_kept part.log)
  pub few : part.log.entries < 2 ^ 64 - 1

-- the own log that is held has room for such changes
abbrev pub MayTake : ℕ → List Change → FileHand → Type 0
MayTake nodes changes hand = (part : PartCell) → part_held nodes hand.held hand.view.core ≡ Some part → HasRoomFor changes part

-- The own log that is held has taken changes; a core has made as many nodes as before.
pub record TakesEntry (nodes : ℕ) (changes : List Change) (before after : FileHand) : Type 0 where
  pub part : PartCell
  pub was : part_held nodes before.held before.view.core ≡ Some part
  pub value : Cell
  pub next : PartCell
  pub is : as_part value ≡ Some next
  pub frame : after ≡ record before { held = with_value (cell_place nodes (id.Part (record { 0 = before.view.core }))) value before.held }
  pub log : IsAddedTo part.log changes next.log
  pub made : next.made ≡ part.made
