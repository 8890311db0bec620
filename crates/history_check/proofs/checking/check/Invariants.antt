use Rattle.std.proofs.Common.{length}
use Rattle.history_check.proofs.Reached.{Follows}
use Rattle.history_check.proofs.checking.check.Given as goal

abbrev pub invariant-loop-left : goal.invariant-loop-left
invariant-loop-left l =
    Follows (record { first = l.fn.first; text = l.fn.text; cores = l.cores }) (record { tree = l.tree; count = l.count; left = l.left })

abbrev pub decreases-loop-left : goal.decreases-loop-left
decreases-loop-left l = length l.left
