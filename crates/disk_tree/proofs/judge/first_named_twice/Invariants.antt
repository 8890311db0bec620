use Rattle.std.proofs.Common.{length}
use Rattle.disk_tree.specs.First.{NonePasses}
use Rattle.disk_tree.specs.Tests.{breaks_twelfth}
use Rattle.disk_tree.proofs.judge.first_named_twice.Given as goal

abbrev pub invariant-loop-place : goal.invariant-loop-place
invariant-loop-place l = NonePasses l.place (breaks_twelfth l.inodes l.rows (length l.inodes))
