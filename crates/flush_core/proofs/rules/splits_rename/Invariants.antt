use Rattle.std.proofs.Common.{take}
use Rattle.flush_core.specs.Broken.{SomeIs, IsSplit}
use Rattle.flush_core.proofs.rules.splits_rename.Given as goal

abbrev pub invariant-loop-change : goal.invariant-loop-change
invariant-loop-change l = SomeIs (take l.change-index l.changes) (IsSplit l.cut) → ⊥
