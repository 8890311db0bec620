use Rattle.std.proofs.Common.{arith}
use Rattle.disk_tree.proofs.RowsGathered.{more_rows}
use Rattle.disk_tree.proofs.rows.push_rows.Goals as goal

pub loop-slot-preserved : goal.loop-slot-preserved
loop-slot-preserved c =
    more_rows c.as_slice-slot-items.result.now c.loop-slot.slot-index _ c.args.rows.now.items _ _
    (omega arith) c.slot-item.is c.loop-slot.invariant c.in_ok-push_row.ensures
