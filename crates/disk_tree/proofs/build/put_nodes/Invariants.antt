use Rattle.std.proofs.Common.{◌≡◌}
use Rattle.disk_tree.specs.Built.{with_nodes, node_entries}
use Rattle.disk_tree.proofs.build.put_nodes.Given as goal

abbrev pub invariant-loop-place : goal.invariant-loop-place
invariant-loop-place l = l.tree ≡ with_nodes l.initial.tree (node_entries l.inodes l.named l.contents l.place)
