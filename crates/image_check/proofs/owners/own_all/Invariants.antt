use Rattle.image_check.specs.Gathered.{HasOwners}
use Rattle.image_check.proofs.owners.own_all.Given as goal

abbrev pub invariant-loop-place : goal.invariant-loop-place
invariant-loop-place l = record { owners : HasOwners l.inodes l.tables l.place l.owners }
