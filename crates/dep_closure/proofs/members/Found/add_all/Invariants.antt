use Rattle.std.proofs.Common.{◌≡◌, take}
use Rattle.cut_laws.specs.Elements.{OfSome}
use Rattle.dep_closure.specs.Brought.{GrowsBy}
use Rattle.dep_closure.proofs.members.Found.add_all.Given as goal

abbrev pub invariant-loop-node : goal.invariant-loop-node
invariant-loop-node l = GrowsBy l.fn.self l.self (OfSome (take l.node-index l.nodes) (λ node other. node.0 ≡ other))
