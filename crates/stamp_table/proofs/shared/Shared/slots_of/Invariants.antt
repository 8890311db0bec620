use Rattle.std.proofs.Common.{◌≡◌, ◌<◌, ℕ, length, drop, Some}
use Rattle.std.specs.Prelude.{slice_get}
use lib.ListN.{get_elem?}
use mathlib.Core.Option.{some}
use Rattle.stamp_table.proofs.shared.Shared.slots_of.Given as goal

abbrev pub invariant-loop-cell : goal.invariant-loop-cell
invariant-loop-cell g l = record {
  long : length l.slots.items ≡ length l.fn.cells.items;
  rest : l.cell-iterator.rest.items ≡ drop l.place l.fn.cells.items;
  laid : (place : ℕ) (value : g.row.C.Denot) → place < l.place → slice_get l.fn.cells.items place ≡ Some value
      → get_elem? l.slots.items (g.M.Meaning.slot_at l.measure place) ≡ some (Some value);
}
