use Rattle.image_check.specs.Climbs.{AreClimbed}
use Rattle.image_check.proofs.climb.holder_list.Given as goal

abbrev pub invariant-loop-place : goal.invariant-loop-place
invariant-loop-place l = record { climbed : AreClimbed l.inodes l.above l.place l.list.items }
