use Rattle.std.proofs.Common.{reverse, length, ◌-◌, ◌≤◌}
use Rattle.disk_change.proofs.Walked.{Walked}
use Rattle.disk_change.proofs.directory.blocks_changed.Given as goal

abbrev pub invariant-loop-place : goal.invariant-loop-place
invariant-loop-place l = record {
  walked : Walked l.directories l.net (reverse l.fn.waiting.items) l.slots l.place l.changed.items (reverse l.waiting.items);
  within : l.place ≤ length l.slots;
}

abbrev pub decreases-loop-place : goal.decreases-loop-place
decreases-loop-place l = length l.slots - l.place
