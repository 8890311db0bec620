use Rattle.std.proofs.Common.{take}
use Rattle.cut_laws.specs.Elements.{OfSome}
use Rattle.dep_closure.specs.Brought.{GrowsBy, ChangeBrings}
use Rattle.dep_closure.specs.Gathered.{noted_as}
use Rattle.dep_closure.proofs.following.follow_span.Given as goal

abbrev pub invariant-loop-at : goal.invariant-loop-at
invariant-loop-at l = GrowsBy l.fn.found l.found (OfSome (take l.at l.span) (λ change. ChangeBrings (noted_as l.span change)))
