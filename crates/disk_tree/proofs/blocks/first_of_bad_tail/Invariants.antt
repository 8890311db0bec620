use Rattle.disk_tree.specs.Blocks.{breaks_tail_at}
use Rattle.disk_tree.specs.First.{NonePasses}
use Rattle.disk_tree.proofs.blocks.first_of_bad_tail.Given as goal

abbrev pub invariant-loop-place : goal.invariant-loop-place
invariant-loop-place l = NonePasses l.place (breaks_tail_at l.inodes l.contents)
