use Rattle.std.proofs.Common.{take}
use Rattle.flush_core.specs.Broken.{SomeIs, LacksAncestor}
use Rattle.flush_core.proofs.rules.lacks_ancestors.Given as goal

abbrev pub invariant-loop-change : goal.invariant-loop-change
invariant-loop-change l = SomeIs (take l.change-index l.changes) (LacksAncestor l.changes l.cut) → ⊥
