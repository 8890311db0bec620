use Rattle.std.proofs.Common.{take}
use Rattle.flush_core.specs.Broken.{SomeIs, IsFlushedIn}
use Rattle.flush_core.proofs.rules.has_flushed.Given as goal

abbrev pub invariant-loop-change : goal.invariant-loop-change
invariant-loop-change l = SomeIs (take l.change-index l.changes) (IsFlushedIn l.cut l.directory) → ⊥
