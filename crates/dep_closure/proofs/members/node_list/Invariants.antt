use Rattle.std.proofs.Common.{◌≡◌, map}
use Rattle.tree_laws.specs.NameRow.{node_number}
use Rattle.dep_closure.proofs.members.node_list.Given as goal

abbrev pub invariant-loop-node : goal.invariant-loop-node
invariant-loop-node l = map node_number l.nodes.items ≡ l.yielded
