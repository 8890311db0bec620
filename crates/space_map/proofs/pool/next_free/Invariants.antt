use Rattle.std.proofs.Common.{◌≡◌, ◌*◌, length}
use Rattle.space_map.specs.Groups.{NoneFreeBelow, MarksHold}
use Rattle.space_map.proofs.pool.next_free.Given as goal

abbrev pub invariant-loop-group : goal.invariant-loop-group
invariant-loop-group l = record {
  groups : length l.marks.items ≡ length l.fn.marks.items;
  marked : MarksHold l.statuses l.marks.items;
  passed : NoneFreeBelow l.statuses (64 * l.group);
}
