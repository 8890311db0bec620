use Rattle.std.proofs.Common.{◌≤◌, length, take, List}
use Rattle.sfs_base.specs.declared.numbers.NodeId.{NodeId}
use Rattle.disk_nodes.specs.declared.old.OldEntry.{OldEntry}
use Rattle.fsync_values.specs.Renewing.{boxes_asked}
use Rattle.fsync_values.proofs.spares.spare_boxes.Given as goal

abbrev pub invariant-loop-value : goal.invariant-loop-value
invariant-loop-value l = (after : List OldEntry) (nodes : List NodeId) → boxes_asked after nodes (take l.value-index l.values) ≤ length l.spares.items
