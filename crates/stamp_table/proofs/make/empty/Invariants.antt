use Rattle.std.proofs.Common.{◌≡◌, ◌≤◌, length}
use Rattle.std.specs.Vec.{vec_capacity}
use Rattle.stamp_table.proofs.make.empty.Given as goal

abbrev pub invariant-loop : goal.invariant-loop
invariant-loop g l = record {
  made : length l.slots.items ≡ l.counter;
  within : l.counter ≤ l.count;
  room : l.count ≤ vec_capacity l.slots;
}
