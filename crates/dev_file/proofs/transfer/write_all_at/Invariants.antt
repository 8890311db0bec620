use Rattle.std.proofs.Common.{length, ◌-◌, ◌≤◌}
use Rattle.dev_file.proofs.transfer.write_all_at.Given as goal

abbrev pub invariant-loop-put : goal.invariant-loop-put
invariant-loop-put l = l.put ≤ length l.from

abbrev pub decreases-loop-put : goal.decreases-loop-put
decreases-loop-put l = length l.from - l.put
