use Rattle.std.proofs.Common.{◌≡◌, ℕ, true, take}
use Rattle.flush_core.specs.NodeSets.{has_node}
use Rattle.cut_laws.specs.Rules.{IsOneOf}
use Rattle.flush_core.proofs.closure.absent_among.Given as goal

abbrev pub invariant-loop-node : goal.invariant-loop-node
invariant-loop-node l = (node : ℕ) → IsOneOf (take l.node-index l.nodes) node → has_node l.members node ≡ true
