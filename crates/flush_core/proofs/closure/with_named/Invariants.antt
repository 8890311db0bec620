use Rattle.std.proofs.Common.{take}
use Rattle.flush_core.specs.Engine.{Joins, NamesFor}
use Rattle.cut_laws.specs.Elements.{OfSome}
use Rattle.flush_core.proofs.closure.with_named.Given as goal

abbrev pub invariant-loop-change : goal.invariant-loop-change
invariant-loop-change l = Joins (OfSome (take l.change-index l.changes) (NamesFor l.cut l.stamp l.members)) l.members l.concerned
