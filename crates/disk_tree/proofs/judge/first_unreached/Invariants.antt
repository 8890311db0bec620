use Rattle.disk_tree.specs.First.{NonePasses}
use Rattle.disk_tree.specs.Tests.{breaks_fourteenth}
use Rattle.disk_tree.proofs.judge.first_unreached.Given as goal

abbrev pub invariant-loop-place : goal.invariant-loop-place
invariant-loop-place l = NonePasses l.place (breaks_fourteenth l.inodes l.reached)
