use Rattle.std.proofs.Common.{◌*◌, ◌+◌, ◌-◌, ◌^◌, length}
use Rattle.dep_closure.specs.Gathered.{look_of}
use Rattle.dep_closure.proofs.Closed.{Closes}
use Rattle.dep_closure.proofs.closing.closure.Given as goal

abbrev pub invariant-loop-node : goal.invariant-loop-node
invariant-loop-node l = Closes (look_of l.fn.start l.below l.logs) l.found

abbrev pub decreases-loop-node : goal.decreases-loop-node
decreases-loop-node l = 2 * (2 ^ 32 - length l.found.members.keys) + length l.found.due.items
