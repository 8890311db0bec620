use Rattle.std.proofs.Common.{take}
use Rattle.flush_core.specs.Engine.{Joins}
use Rattle.cut_laws.specs.Elements.{OfSome}
use Rattle.flush_core.specs.Named.{IsChildOf}
use Rattle.flush_core.proofs.named.add_children.Given as goal

abbrev pub invariant-loop-row : goal.invariant-loop-row
invariant-loop-row l = Joins (OfSome (take l.row-index l.rows) IsChildOf) l.initial.named l.named
