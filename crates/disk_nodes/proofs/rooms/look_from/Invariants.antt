use Rattle.std.proofs.Common.{◌≡◌, length}
use Rattle.disk_nodes.specs.Rooms.{AreFullBefore}
use Rattle.disk_nodes.proofs.rooms.look_from.Given as goal

abbrev pub invariant-loop-group : goal.invariant-loop-group
invariant-loop-group l = record {
  full : AreFullBefore l.group l.full.items l.blocks;
  count : length l.full.items ≡ length l.fn.full.items;
}
