use Rattle.std.proofs.Common.{take}
use Rattle.flush_core.specs.declared.past.OwnChange.{OwnChange}
use Rattle.flush_core.specs.Engine.{NamesUnflushed}
use Rattle.cut_laws.specs.Rules.{IsOneOf}
use Rattle.flush_core.proofs.closure.has_naming.Given as goal

abbrev pub invariant-loop-change : goal.invariant-loop-change
invariant-loop-change l = (change : OwnChange) → IsOneOf (take l.change-index l.changes) change → NamesUnflushed l.cut l.node change → ⊥
