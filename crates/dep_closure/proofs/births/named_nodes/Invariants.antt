use Rattle.std.proofs.Common.{take, map}
use Rattle.cut_laws.specs.Elements.{OfSome}
use Rattle.dep_closure.specs.Brought.{AddsTo}
use Rattle.tree_laws.specs.NameRow.{node_number}
use Rattle.dep_closure.specs.Gathered.{IsNamedByLog, lifted_cut}
use Rattle.dep_closure.proofs.births.named_nodes.Given as goal

abbrev pub invariant-loop-log : goal.invariant-loop-log
invariant-loop-log l =
    AddsTo l.initial.named l.named (OfSome (take l.log-index l.logs) (IsNamedByLog (lifted_cut l.gathered.cuts.items (map node_number l.lifted) l.to.0)))
