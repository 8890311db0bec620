use Rattle.std.proofs.Common.{take}
use Rattle.flush_core.specs.Broken.{SomeIs, LeavesChange}
use Rattle.flush_core.proofs.rules.leaves_changes.Given as goal

abbrev pub invariant-loop-change : goal.invariant-loop-change
invariant-loop-change l = SomeIs (take l.change-index l.changes) (LeavesChange l.changes l.cut) → ⊥
