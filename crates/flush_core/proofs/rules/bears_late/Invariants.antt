use Rattle.std.proofs.Common.{take}
use Rattle.flush_core.specs.Broken.{SomeIs, IsBornLate}
use Rattle.flush_core.proofs.rules.bears_late.Given as goal

abbrev pub invariant-loop-born : goal.invariant-loop-born
invariant-loop-born l = SomeIs (take l.born-index l.births) (IsBornLate l.changes l.cut) → ⊥
