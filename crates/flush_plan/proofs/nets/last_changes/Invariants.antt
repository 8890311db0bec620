use Rattle.std.proofs.Common.{take}
use Rattle.absorb.specs.Last.{lent, AreLast}
use Rattle.flush_plan.proofs.nets.last_changes.Given as goal

abbrev pub invariant-loop-change : goal.invariant-loop-change
invariant-loop-change l = AreLast (take l.change-index l.changes) (lent l.last.entries)
