use Rattle.disk_tree.specs.Apart.{HoldOnce}
use Rattle.disk_tree.proofs.apart.first_that_meets.Given as goal

abbrev pub invariant-loop-place : goal.invariant-loop-place
invariant-loop-place l = record { once : HoldOnce l.inodes l.tables l.place l.held }
