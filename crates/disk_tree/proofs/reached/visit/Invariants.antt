use Rattle.disk_tree.specs.Reached.{Visits}
use Rattle.disk_tree.proofs.reached.visit.Given as goal

abbrev pub invariant-loop-row : goal.invariant-loop-row
invariant-loop-row l = Visits l.rows l.row-index l.initial.reached l.reached l.initial.pending.items l.pending.items
