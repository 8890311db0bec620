use Rattle.std.proofs.Common.{◌≡◌, map, take}
use Rattle.tree_laws.specs.NameRow.{node_number}
use Rattle.flush_core.proofs.plan.numbers_of.Given as goal

abbrev pub invariant-loop-node : goal.invariant-loop-node
invariant-loop-node l = l.numbers.items ≡ map node_number (take l.node-index l.nodes)
