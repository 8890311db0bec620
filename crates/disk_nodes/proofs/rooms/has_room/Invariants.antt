use Rattle.std.proofs.Common.{◌≡◌, ℕ, ◌<◌, get_or, is_none, None, false}
use Rattle.disk_nodes.proofs.rooms.has_room.Given as goal

abbrev pub invariant-loop-place : goal.invariant-loop-place
invariant-loop-place l = (k : ℕ) → k < l.place → is_none (get_or l.block k None) ≡ false
