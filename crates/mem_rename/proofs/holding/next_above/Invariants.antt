use Rattle.std.proofs.Common.{take}
use Rattle.mem_rename.specs.Holding.{IsNextAbove}
use Rattle.mem_rename.proofs.holding.next_above.Given as goal

abbrev pub invariant-loop-cell : goal.invariant-loop-cell
invariant-loop-cell l = IsNextAbove l.nodes l.last (take l.cell-index l.cells) l.next
