use Rattle.std.proofs.Common.{take}
use Rattle.cut_laws.specs.Elements.{OfSome}
use Rattle.dep_closure.specs.Brought.{AddsTo}
use Rattle.flush_plan.specs.Concerned.{IsTouchedBy}
use Rattle.flush_plan.proofs.concerning.touched_nodes.Given as goal

abbrev pub invariant-loop-member : goal.invariant-loop-member
invariant-loop-member l = AddsTo l.initial.touched l.touched (OfSome (take l.member-index l.nodes) (IsTouchedBy l.logs l.below))
