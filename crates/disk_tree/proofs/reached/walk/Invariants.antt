use Rattle.std.proofs.Common.{◌+◌, length}
use Rattle.disk_tree.specs.Reached.{Frontier, unmarked}
use Rattle.disk_tree.proofs.reached.walk.Given as goal

abbrev pub invariant-loop-directory : goal.invariant-loop-directory
invariant-loop-directory l = record { frontier : Frontier l.rows (length l.rows) l.reached l.pending.items }

abbrev pub decreases-loop-directory : goal.decreases-loop-directory
decreases-loop-directory l = unmarked l.reached + length l.pending.items
