use Rattle.std.proofs.Common.{◌≡◌, ℕ, ◌<◌, ◌≤◌, false}
use Rattle.disk_nodes.specs.Rooms.{has_empty}
use Rattle.disk_nodes.proofs.rooms.is_full.Given as goal

abbrev pub invariant-loop-place : goal.invariant-loop-place
invariant-loop-place l = (n : ℕ) → l.from ≤ n → n < l.place → has_empty l.blocks n ≡ false
