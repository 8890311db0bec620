use Rattle.std.proofs.Common.{take}
use Rattle.flush_core.specs.Broken.{IsLatest}
use Rattle.flush_core.proofs.rules.last_placing.Given as goal

abbrev pub invariant-loop-change : goal.invariant-loop-change
invariant-loop-change l = IsLatest (take l.change-index l.changes) l.node l.below l.last
