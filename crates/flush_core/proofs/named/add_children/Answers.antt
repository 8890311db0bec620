use Rattle.std.proofs.Common.{refl}
use Rattle.flush_core.specs.Named.{IsChildOf}
use Rattle.flush_core.proofs.Gathered.{gather_none, gather_more, gather_all}
use Rattle.flush_core.proofs.named.add_children.Goals as goal

pub loop-row-preserved : goal.loop-row-preserved
loop-row-preserved c =
    gather_more IsChildOf c.args.rows.now c.loop-row.row-index c.row-item.result c.row-item.result c.args.named.now c.loop-row.named c.add_child_of.new.named
    c.loop-row-test.true c.row-item.is c.loop-row.invariant c.in_ok-add_child_of.ensures

pub returns : goal.returns
returns c = gather_all IsChildOf c.args.rows.now c.loop-row.row-index c.args.named.now c.loop-row.named c.loop-row-test.false c.loop-row.invariant

pub loop-row-init : goal.loop-row-init
loop-row-init c = gather_none IsChildOf c.args.rows.now c.args.named.now c.args.named.now (λ node. refl)
