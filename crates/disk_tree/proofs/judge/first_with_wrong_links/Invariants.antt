use Rattle.std.proofs.Common.{length}
use Rattle.disk_tree.specs.First.{NonePasses}
use Rattle.disk_tree.specs.Tests.{breaks_thirteenth}
use Rattle.disk_tree.proofs.judge.first_with_wrong_links.Given as goal

abbrev pub invariant-loop-place : goal.invariant-loop-place
invariant-loop-place l = NonePasses l.place (breaks_thirteenth l.inodes l.rows (length l.inodes))
