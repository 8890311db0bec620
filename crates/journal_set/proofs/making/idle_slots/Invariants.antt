use Rattle.std.proofs.Common.{◌≡◌, ◌≤◌, ℕ, Some, length}
use Rattle.std.specs.Prelude.{slice_get}
use Rattle.std.specs.Vec.{vec_capacity}
use Rattle.slot_laws.specs.Slots.{place_at}
use Rattle.disk_box.specs.declared.desk.Slot.{Slot}
use Rattle.disk_box.specs.declared.desk.Phase.TheVariants as phase
use Rattle.journal_set.proofs.making.idle_slots.Given as goal

abbrev pub invariant-loop-k : goal.invariant-loop-k
invariant-loop-k g l = record {
  made : length l.slots.items ≡ l.k;
  within : l.k ≤ l.count;
  room : l.count ≤ vec_capacity l.slots;
  each : (j : ℕ) (slot : Slot) → slice_get l.slots.items j ≡ Some slot → slot.phase ≡ phase.Idle (place_at l.layout j);
}
