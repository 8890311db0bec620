use Rattle.std.proofs.Common.{◌≡◌, ◌+◌, ◌≤◌, ℕ, [], length}
use Rattle.std.specs.Vec.{vec_capacity}
use Rattle.stamp_table.specs.Table.{AreIdleFrom, AreNew, CoresHaveRoom, HaveRoomFor}
use Rattle.stamp_table.proofs.Beginning.{gatherer_with}
use Rattle.stamp_table.proofs.shared.Shared.cores_of.Given as goal

abbrev pub invariant-loop-list : goal.invariant-loop-list
invariant-loop-list g l = record {
  table : l.lead.table_id ≡ l.table.shared.table_id;
  lead : l.lead.me ≡ (gatherer_with (l.table.shared.key.0.value, (l.table.shared.key.1.0.value, l.table.shared.key.1.1.value)) l.number, []);
  within : l.number + length l.list-iterator.rest.items ≡ l.cores;
  count : length l.hands.items ≡ l.number;
  room : l.cores ≤ vec_capacity l.hands;
  ready : AreIdleFrom (record { id = l.table.shared.table_id; given = l.table.shared.key.1.0.value; measure = l.table.shared.key.1.1.value }) l.cores 0
      l.hands.items;
  new : AreNew l.table.shared.key.0.value l.hands.items;
  cells : (room : ℕ) → HaveRoomFor room l.fn.held.items → HaveRoomFor room l.list-iterator.rest.items × CoresHaveRoom room l.hands.items;
}
