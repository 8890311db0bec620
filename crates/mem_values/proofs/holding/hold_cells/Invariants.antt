use Rattle.std.proofs.Common.{◌≡◌, ◌≤◌, length, drop, map}
use Rattle.stamp_table.specs.Ascending.{AreBelow, RiseAbove}
use Rattle.stamp_table.specs.Table.{HoldsAll}
use Rattle.mem_values.specs.Start.{given_by}
use Rattle.mem_values.specs.Places.{cell_place}
use Rattle.mem_values.specs.Stands.{StandsAt}
use Rattle.mem_values.specs.Facts.{IsLawfulLog}
use Rattle.mem_values.proofs.holding.hold_cells.Given as goal

abbrev pub invariant-loop-cell : goal.invariant-loop-cell
invariant-loop-cell g l = record {
  table : l.core.table ≡ l.initial.core.table;
  within : AreBelow l.shared.table.id.slots (map (cell_place l.nodes) (drop l.cell-index l.cells));
  above : RiseAbove l.core.view.held (map (cell_place l.nodes) (drop l.cell-index l.cells));
  room : length (drop l.cell-index l.cells) ≤ l.core.room;
  rest : (after : _) → HoldsAll (IsLawfulLog (given_by l.shared)) (StandsAt (given_by l.shared)) (map (cell_place l.nodes) (drop l.cell-index l.cells))
      l.core after
      → HoldsAll (IsLawfulLog (given_by l.shared)) (StandsAt (given_by l.shared)) (map (cell_place l.nodes) l.cells) l.initial.core after;
}
