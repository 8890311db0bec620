use Rattle.std.proofs.Common.{◌≡◌, ◌≤◌, length}
use Rattle.std.specs.Vec.{vec_capacity}
use Rattle.stamp_table.specs.Table.{HaveRoomFor}
use Rattle.stamp_table.proofs.make.held_lists.Given as goal

abbrev pub invariant-loop : goal.invariant-loop
invariant-loop g l = record {
  made : length l.lists.items ≡ l.counter;
  within : l.counter ≤ l.count;
  room : l.count ≤ vec_capacity l.lists;
  each : HaveRoomFor l.room l.lists.items;
}
