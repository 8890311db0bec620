use Rattle.disk_tree.specs.First.{NonePasses}
use Rattle.disk_tree.specs.Tests.{breaks_tenth}
use Rattle.disk_tree.proofs.judge.first_with_misplaced_row.Given as goal

abbrev pub invariant-loop-place : goal.invariant-loop-place
invariant-loop-place l = NonePasses l.place (breaks_tenth l.inodes l.rows)
