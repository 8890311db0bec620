use Rattle.flush_core.proofs.ChildRows.{kept_more}
use Rattle.flush_core.proofs.named.rows_of.Goals as goal

pub loop-change-preserved : goal.loop-change-preserved
loop-change-preserved c =
    kept_more c.args.first.now c.args.changes.now c.loop-change.change-index c.args.directory c.args.stamp c.change-item.result c.loop-change.names
    c.make_own.new.names c.loop-change-test.true c.change-item.is c.loop-change.invariant c.in_ok-make_own.ensures
