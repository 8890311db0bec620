use Rattle.std.proofs.Common.{◌+◌, length}
use Rattle.log_merge.proofs.Taking.{MergesTo}
use Rattle.log_merge.proofs.merging.merge_two.Given as goal

abbrev pub invariant-loop-change : goal.invariant-loop-change
invariant-loop-change l = MergesTo l.fn.first.items l.fn.second.items l.first.items l.second.items l.both.items

abbrev pub decreases-loop-change : goal.decreases-loop-change
decreases-loop-change l = length l.first.items + length l.second.items
