use Rattle.mem_values.specs.Start.{given_in}
use Rattle.mem_begin.specs.Beginning.{HasGivenBelow, nodes_below}
use Rattle.mem_begin.proofs.Standing.{AreLastCells}
use Rattle.mem_begin.proofs.table.cells_of.Given as goal

abbrev pub invariant-loop-place : goal.invariant-loop-place
invariant-loop-place l = record {
  last : AreLastCells (given_in l.start.value.items) l.tree l.place l.cells.items;
  given : HasGivenBelow (given_in l.start.value.items) (nodes_below l.nodes l.place) l.given.items;
}

abbrev pub decreases-loop-place : goal.decreases-loop-place
decreases-loop-place l = l.place
