use Rattle.std.proofs.Common.{take}
use Rattle.flush_core.specs.Engine.{Joins}
use Rattle.cut_laws.specs.Elements.{OfSome}
use Rattle.flush_core.specs.Named.{IsChildIn}
use Rattle.flush_core.proofs.named.children_in.Given as goal

abbrev pub invariant-loop-directory : goal.invariant-loop-directory
invariant-loop-directory l = Joins (OfSome (take l.directory-index l.directories) (IsChildIn l.first l.changes l.cut)) l.initial.named l.named
