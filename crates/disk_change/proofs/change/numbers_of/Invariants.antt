use Rattle.std.proofs.Common.{◌≡◌, take, map}
use Rattle.tree_laws.specs.NameRow.{node_number}
use Rattle.disk_change.proofs.change.numbers_of.Given as goal

abbrev pub invariant-loop-node : goal.invariant-loop-node
invariant-loop-node l = l.numbers.items ≡ map node_number (take l.node-index l.nodes.items)
