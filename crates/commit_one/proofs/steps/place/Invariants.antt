use Rattle.journal_one.specs.Stage.{left_to_place}
use Rattle.commit_one.proofs.Loops.{PlacesSoFar}
use Rattle.commit_one.proofs.steps.place.Given as goal

abbrev pub invariant-loop-next : goal.invariant-loop-next
invariant-loop-next g l = PlacesSoFar l.fn.durable (g.D.Disk.view l.fn.disk) l.durable (g.D.Disk.view l.disk)

abbrev pub decreases-loop-next : goal.decreases-loop-next
decreases-loop-next g l = left_to_place l.durable
