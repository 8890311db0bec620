use Rattle.disk_tree.proofs.RowsCounted.{CountedSoFar}
use Rattle.disk_tree.proofs.rows.count_all.Given as goal

abbrev pub invariant-loop-place : goal.invariant-loop-place
invariant-loop-place l = CountedSoFar l.rows l.place l.initial.named l.named
