use Rattle.std.proofs.Common.{◌≡◌, ◌-◌, ◌^◌, ◌<◌, ℕ, true, IsSome}
use Rattle.std.specs.FinMap.{get}
use Rattle.tree_laws.specs.Least.{first_behind}
use Rattle.tree_laws.specs.NameRow.{number_of}
use Rattle.flush_core.specs.NodeSets.{has_node}
use Rattle.flush_core.proofs.state.commits.nodes_of.Given as goal

abbrev pub invariant-loop-node : goal.invariant-loop-node
invariant-loop-node l = record {
  low : (node : ℕ) → node < first_behind (number_of l.last) → IsSome (get l.tree.nodes node) → has_node l.nodes node ≡ true;
  own : (node : ℕ) → has_node l.nodes node ≡ true → IsSome (get l.tree.nodes node);
}

abbrev pub decreases-loop-node : goal.decreases-loop-node
decreases-loop-node l = 2 ^ 32 - first_behind (number_of l.last)
