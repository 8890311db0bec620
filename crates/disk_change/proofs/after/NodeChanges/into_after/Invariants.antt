use Rattle.std.proofs.Common.{◌+◌, ◌≤◌, length}
use Rattle.std.specs.Prelude.{vec_capacity, vec_len}
use Rattle.disk_change.proofs.Putting.{Putting}
use Rattle.disk_change.proofs.after.NodeChanges.into_after.Given as goal

abbrev pub invariant-loop-node : goal.invariant-loop-node
invariant-loop-node l = record {
  putting : Putting l.initial.old.items l.initial.nodes.items l.old.items l.nodes.items l.list.items;
  room : length l.nodes.items + vec_len l.list ≤ vec_capacity l.list;
}

abbrev pub decreases-loop-node : goal.decreases-loop-node
decreases-loop-node l = length l.nodes.items
