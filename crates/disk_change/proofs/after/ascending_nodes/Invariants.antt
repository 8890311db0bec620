use Rattle.std.proofs.Common.{◌≡◌, map}
use Rattle.disk_change.specs.Lists.{ascending_by}
use Rattle.disk_change.specs.Parts.{parts_keyed, parts_node}
use Rattle.disk_change.proofs.after.ascending_nodes.Given as goal

abbrev pub invariant-loop-node : goal.invariant-loop-node
invariant-loop-node l = map parts_keyed l.by_node.entries ≡ ascending_by parts_node l.yielded
