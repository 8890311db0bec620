use Rattle.disk_tree.specs.First.{NonePasses}
use Rattle.disk_tree.specs.Tests.{breaks_ninth}
use Rattle.disk_tree.proofs.judge.first_with_full_bucket.Given as goal

abbrev pub invariant-loop-place : goal.invariant-loop-place
invariant-loop-place l = NonePasses l.place (breaks_ninth l.rows)
