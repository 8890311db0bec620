use Rattle.std.proofs.Common.{length, ◌-◌, ◌≤◌}
use Rattle.dev_file.proofs.transfer.read_all_at.Given as goal

abbrev pub invariant-loop-got : goal.invariant-loop-got
invariant-loop-got l = l.got ≤ length l.initial.into

abbrev pub decreases-loop-got : goal.decreases-loop-got
decreases-loop-got l = length l.initial.into - l.got
