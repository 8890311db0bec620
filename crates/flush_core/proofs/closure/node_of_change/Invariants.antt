use Rattle.std.proofs.Common.{◌≡◌, ℕ, true, take}
use Rattle.flush_core.specs.declared.past.OwnChange.{OwnChange}
use Rattle.flush_core.specs.Engine.{RequiresNodeFor}
use Rattle.flush_core.specs.NodeSets.{has_node}
use Rattle.cut_laws.specs.Rules.{IsOneOf}
use Rattle.flush_core.proofs.closure.node_of_change.Given as goal

abbrev pub invariant-loop-change : goal.invariant-loop-change
invariant-loop-change l =
    (change : OwnChange) → IsOneOf (take l.change-index l.changes) change → (node : ℕ) → RequiresNodeFor l.cut l.stamp l.members change node
    → has_node l.members node ≡ true
