use Rattle.journal_one.specs.Stage.{left_to_fill}
use Rattle.commit_one.proofs.Loops.{FillsSoFar}
use Rattle.commit_one.proofs.steps.fill.Given as goal

abbrev pub invariant-loop-next : goal.invariant-loop-next
invariant-loop-next g l = FillsSoFar l.fn.filling (g.D.Disk.view l.fn.disk) l.filling (g.D.Disk.view l.disk)

abbrev pub decreases-loop-next : goal.decreases-loop-next
decreases-loop-next g l = left_to_fill l.filling
