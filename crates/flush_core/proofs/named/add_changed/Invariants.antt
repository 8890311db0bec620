use Rattle.std.proofs.Common.{take}
use Rattle.flush_core.specs.Engine.{Joins}
use Rattle.cut_laws.specs.Elements.{OfSome}
use Rattle.flush_core.specs.Named.{StandsInDirectory}
use Rattle.flush_core.proofs.named.add_changed.Given as goal

abbrev pub invariant-loop-change : goal.invariant-loop-change
invariant-loop-change l = Joins (OfSome (take l.change-index l.changes) StandsInDirectory) l.initial.directories l.directories
