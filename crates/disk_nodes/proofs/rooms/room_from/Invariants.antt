use Rattle.std.proofs.Common.{◌≡◌, ◌-◌, ℕ, ◌<◌, ◌≤◌, false, length}
use Rattle.disk_nodes.specs.Rooms.{has_empty}
use Rattle.disk_nodes.proofs.rooms.room_from.Given as goal

abbrev pub invariant-loop-at : goal.invariant-loop-at
invariant-loop-at l = record {
  on : l.from ≤ l.at;
  full : (n : ℕ) → l.from ≤ n → n < l.at → n < length l.blocks → has_empty l.blocks n ≡ false;
}

abbrev pub decreases-loop-at : goal.decreases-loop-at
decreases-loop-at l = length l.blocks - l.at
