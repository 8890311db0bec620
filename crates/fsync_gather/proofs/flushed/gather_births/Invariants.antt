use Rattle.std.proofs.Common.{◌≡◌, take}
use Rattle.std.specs.Prelude.{filter_map}
use Rattle.fsync_gather.specs.Gathers.{nodes_seen, birth_seen}
use Rattle.fsync_gather.proofs.flushed.gather_births.Given as goal

abbrev pub invariant-loop-node : goal.invariant-loop-node
invariant-loop-node l = l.births.items ≡ filter_map birth_seen (nodes_seen l.nodes l.core.held (take l.node-index l.held))
