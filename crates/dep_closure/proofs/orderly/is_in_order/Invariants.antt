use Rattle.std.proofs.Common.{take}
use Rattle.mem_cells.specs.Log.{IsInOrder}
use Rattle.dep_closure.proofs.orderly.is_in_order.Given as goal

abbrev pub invariant-loop-at : goal.invariant-loop-at
invariant-loop-at l = IsInOrder (take l.at l.changes)
