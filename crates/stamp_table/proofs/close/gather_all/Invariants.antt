use Rattle.std.proofs.Common.{◌≡◌, ◌+◌, ◌≤◌, ◌++◌, length, map, true}
use Rattle.std.specs.Vec.{vec_capacity}
use Rattle.std.specs.List.{AllZip}
use Rattle.stamp_table.specs.Answered.{AreCallsOf}
use Rattle.stamp_table.specs.Table.{AreIdleFrom, mine_of, events_seen, answered_entries}
use Rattle.stamp_table.proofs.close.gather_all.Given as goal

abbrev pub invariant-loop-core : goal.invariant-loop-core
invariant-loop-core g l = record {
  table : l.lead.table_id ≡ l.table.shared.table_id;
  gathers : (l.lead.me.0.gathers ≡ true) × (l.lead.me.0.cores ≡ length l.fn.cores.items);
  ready : AreIdleFrom (record { id = l.table.shared.table_id; given = l.table.shared.key.1.0.value; measure = l.table.shared.key.1.1.value })
      (length l.fn.cores.items) (length l.lead.me.0.lists)
      l.core-iterator.rest.items;
  lists : l.lead.me.0.lists ++ map mine_of l.core-iterator.rest.items ≡ map mine_of l.fn.cores.items;
  saws : l.lead.me.0.saws ++ map events_seen l.core-iterator.rest.items ≡ map events_seen l.fn.cores.items;
  parts : map (λ part. part.items) l.parts.items ++ map answered_entries l.core-iterator.rest.items ≡ map answered_entries l.fn.cores.items;
  calls : AllZip AreCallsOf l.lead.me.0.lists (map (λ part. part.items) l.parts.items);
  room : length l.parts.items + length l.core-iterator.rest.items ≤ vec_capacity l.parts;
}
