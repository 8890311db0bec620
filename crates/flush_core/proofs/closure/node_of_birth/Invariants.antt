use Rattle.std.proofs.Common.{◌≡◌, ℕ, true, take}
use Rattle.flush_core.specs.declared.past.BornNode.{BornNode}
use Rattle.flush_core.specs.Engine.{RequiresBirthplace}
use Rattle.flush_core.specs.NodeSets.{has_node}
use Rattle.cut_laws.specs.Rules.{IsOneOf}
use Rattle.flush_core.proofs.closure.node_of_birth.Given as goal

abbrev pub invariant-loop-born : goal.invariant-loop-born
invariant-loop-born l =
    (born : BornNode) → IsOneOf (take l.born-index l.births) born → (node : ℕ) → RequiresBirthplace l.changes l.cut l.inodes l.members born node
    → has_node l.members node ≡ true
