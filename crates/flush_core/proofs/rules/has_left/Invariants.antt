use Rattle.std.proofs.Common.{take}
use Rattle.flush_core.specs.Broken.{SomeIs, IsLeft}
use Rattle.flush_core.proofs.rules.has_left.Given as goal

abbrev pub invariant-loop-change : goal.invariant-loop-change
invariant-loop-change l = SomeIs (take l.change-index l.changes) (IsLeft l.cut l.directory) → ⊥
