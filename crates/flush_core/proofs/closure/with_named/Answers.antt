use Rattle.flush_core.specs.Engine.{NamesFor}
use Rattle.flush_core.proofs.Gathered.{gather_none, gather_more, gather_all}
use Rattle.flush_core.proofs.closure.with_named.Goals as goal

pub loop-change-init : goal.loop-change-init
loop-change-init c =
    gather_none
    (NamesFor c.args.cut.now c.args.stamp c.args.members.now) c.args.changes.now c.args.members.now c.in_ok-concerned.concerned c.in_ok-concerned.ensures

pub loop-change-preserved : goal.loop-change-preserved
loop-change-preserved c =
    gather_more
    (NamesFor c.args.cut.now c.args.stamp c.args.members.now) c.args.changes.now c.loop-change.change-index c.change-item.result c.change-item.result
    c.args.members.now c.loop-change.concerned c.add_child.new.concerned c.loop-change-test.true c.change-item.is c.loop-change.invariant
    c.in_ok-add_child.ensures

pub returns : goal.returns
returns c =
    gather_all
    (NamesFor c.args.cut.now c.args.stamp c.args.members.now) c.args.changes.now c.loop-change.change-index c.args.members.now c.loop-change.concerned
    c.loop-change-test.false c.loop-change.invariant
