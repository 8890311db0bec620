use Rattle.std.proofs.Common.{◌≡◌, ◌++◌, take, drop, map}
use Rattle.disk_change.specs.Directory.{slot_moved}
use Rattle.disk_change.proofs.block.move_rows.Given as goal

abbrev pub invariant-loop-place : goal.invariant-loop-place
invariant-loop-place l = l.block ≡ map (slot_moved l.directories l.net) (take l.place l.fn.block) ++ drop l.place l.fn.block
