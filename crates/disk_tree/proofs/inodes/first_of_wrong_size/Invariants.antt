use Rattle.disk_tree.specs.First.{NonePasses}
use Rattle.disk_tree.specs.Inodes.{breaks_size_by, inode_at}
use Rattle.disk_tree.proofs.inodes.first_of_wrong_size.Given as goal

abbrev pub invariant-loop-place : goal.invariant-loop-place
invariant-loop-place l = NonePasses l.place (λ i. breaks_size_by (inode_at l.inodes i))
