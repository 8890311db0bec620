use Rattle.std.proofs.Common.{◌≡◌, ◌≤◌, take, length}
use Rattle.disk_change.specs.Patched.{patched}
use Rattle.disk_change.specs.Seat.{blocks_to_last_row}
use Rattle.disk_change.proofs.patch.end_of.Given as goal

abbrev pub invariant-loop-end : goal.invariant-loop-end
invariant-loop-end l = record {
  same : blocks_to_last_row (take l.end (patched l.patch l.slots)) ≡ blocks_to_last_row (patched l.patch l.slots);
  within : l.end ≤ length (patched l.patch l.slots);
}

abbrev pub decreases-loop-end : goal.decreases-loop-end
decreases-loop-end l = l.end
