use Rattle.std.proofs.Common.{arith}
use Rattle.disk_tree.proofs.RowsGathered.{more_blocks}
use Rattle.disk_tree.proofs.rows.rows_of.Goals as goal

pub loop-block-preserved : goal.loop-block-preserved
loop-block-preserved c =
    more_blocks c.args.blocks.now c.loop-block.block-index _ _ _ (omega arith) c.block-item.is c.loop-block.invariant c.in_ok-push_rows.ensures
