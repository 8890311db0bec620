use Rattle.disk_tree.proofs.NamesSorted.{NeighboursDiffer}
use Rattle.disk_tree.proofs.by_name.has_equal_neighbours.Given as goal

abbrev pub invariant-loop-place : goal.invariant-loop-place
invariant-loop-place l = NeighboursDiffer l.rows l.place
