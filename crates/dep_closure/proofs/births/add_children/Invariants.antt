use Rattle.std.proofs.Common.{◌≡◌, take}
use Rattle.cut_laws.specs.Elements.{OfSome}
use Rattle.dep_closure.specs.Brought.{AddsTo}
use Rattle.dep_closure.proofs.births.add_children.Given as goal

abbrev pub invariant-loop-change : goal.invariant-loop-change
invariant-loop-change l = AddsTo l.fn.named l.named (OfSome (take l.change-index l.changes) (λ change node. change.child.0 ≡ node))
