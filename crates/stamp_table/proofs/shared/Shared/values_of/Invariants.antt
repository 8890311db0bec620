use Rattle.std.proofs.Common.{◌≡◌, ℕ, ◌-◌, ◌<◌, ◌≤◌, true, false, get_or, length, Some}
use Rattle.std.specs.Prelude.{slice_get}
use Rattle.std.specs.Vec.{vec_capacity}
use Rattle.std.specs.Mem.Slots.{slots_filled, slots_len, slots_items}
use lib.ListN.{get_elem?}
use mathlib.Core.Option.{some}
use Rattle.stamp_table.proofs.shared.Shared.values_of.Given as goal

abbrev pub invariant-loop-place : goal.invariant-loop-place
invariant-loop-place g l = record {
  filled : (place : ℕ) → l.place ≤ place → place < slots_len l.closed.slots
      → get_or (slots_filled l.closed.slots) (g.M.Meaning.slot_at l.measure place) false ≡ true;
  emptied : (place : ℕ) → place < l.place → get_or (slots_filled l.closed.slots) (g.M.Meaning.slot_at l.measure place) false ≡ false;
  items : slots_items l.closed.slots ≡ slots_items l.initial.closed.slots;
  long : slots_len l.closed.slots ≡ slots_len l.initial.closed.slots;
  taken : (place : ℕ) (value : g.row.C.Denot) → slice_get l.values.items place ≡ Some value
      → get_elem? (slots_items l.closed.slots) (g.M.Meaning.slot_at l.measure place) ≡ some (Some value);
  within : l.place ≤ slots_len l.closed.slots;
  room : length l.values.items ≡ l.place;
  capacity : slots_len l.closed.slots ≤ vec_capacity l.values;
}

abbrev pub decreases-loop-place : goal.decreases-loop-place
decreases-loop-place g l = slots_len l.closed.slots - l.place
