use Rattle.std.proofs.Common.{◌≡◌, take}
use Rattle.std.specs.Prelude.{filter_map}
use Rattle.fsync_gather.specs.Gathers.{nodes_seen, inode_seen}
use Rattle.fsync_gather.proofs.flushed.gather_inodes.Given as goal

abbrev pub invariant-loop-node : goal.invariant-loop-node
invariant-loop-node l = l.inodes.items ≡ filter_map inode_seen (nodes_seen l.nodes l.core.held (take l.node-index l.held))
