use Rattle.std.proofs.Common.{get_or, refl}
use Rattle.std.proofs.lemmas.Result.{IfOk-from_err}
use Rattle.flush_core.proofs.Raised.{raise_more, raise_none, raise_whole}
use Rattle.flush_core.proofs.raise.raise_all.Goals as goal

pub loop-node-preserved : goal.loop-node-preserved
loop-node-preserved c =
    raise_more c.args.cut.now c.loop-node.cut c.raise.new.self c.args.nodes.now c.loop-node.node-index 0
    (get_or c.args.nodes.now c.loop-node.node-index 0) c.args.stamp c.loop-node-test.true refl c.loop-node.invariant c.in_ok-raise.ensures.ok

pub loop-node-init : goal.loop-node-init
loop-node-init c = raise_none c.args.cut.now c.args.nodes.now c.args.stamp

pub returns : goal.returns
returns c = raise_whole c.args.cut.now c.loop-node.cut c.args.nodes.now c.loop-node.node-index c.args.stamp c.loop-node-test.false c.loop-node.invariant

pub returns-in_err-raise : goal.returns-in_err-raise
returns-in_err-raise c = IfOk-from_err c.from_residual.result _ c.from_residual.ensures.0
