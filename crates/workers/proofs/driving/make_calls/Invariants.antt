use Rattle.script.specs.Limits.{calls_left}
use Rattle.script.specs.Walks.{commands_of}
use Rattle.workers.proofs.UnderWay.{IsUnderWay}
use Rattle.workers.proofs.driving.make_calls.Given as goal

abbrev pub invariant-loop-call : goal.invariant-loop-call
invariant-loop-call g l =
    IsUnderWay l.table (g.F.Flush.agrees l.flush) (commands_of l.fn.core.view.core l.phase) l.fn.core l.core l.pen l.course

abbrev pub decreases-loop-call : goal.decreases-loop-call
decreases-loop-call g l = calls_left l.course
