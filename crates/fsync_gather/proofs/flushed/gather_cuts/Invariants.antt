use Rattle.std.proofs.Common.{◌≡◌, take}
use Rattle.std.specs.Prelude.{filter_map}
use Rattle.fsync_gather.specs.Gathers.{nodes_seen, cut_seen}
use Rattle.fsync_gather.proofs.flushed.gather_cuts.Given as goal

abbrev pub invariant-loop-node : goal.invariant-loop-node
invariant-loop-node l = l.cuts.items ≡ filter_map cut_seen (nodes_seen l.nodes l.core.held (take l.node-index l.held))
