use Rattle.std.proofs.Common.{get_or, refl}
use Rattle.flush_core.proofs.Raised.{settle_more, settle_none, settle_whole}
use Rattle.flush_core.proofs.raise.inodes_after.Goals as goal

pub loop-node-preserved : goal.loop-node-preserved
loop-node-preserved c =
    settle_more c.args.past.now c.args.raised.now c.args.inodes.now c.args.named.now c.args.own c.args.concerned.now c.loop-node.node-index 0
    (get_or c.args.concerned.now c.loop-node.node-index 0) c.has_inode-has.result c.loop-node.after c.put.new.nodes
    c.loop-node-test.true refl c.loop-node.invariant c.has_inode-has.ensures c.in_ok-put.ensures

pub loop-node-init : goal.loop-node-init
loop-node-init c =
    settle_none c.args.past.now c.args.raised.now c.args.inodes.now c.args.named.now c.args.own c.args.concerned.now c.in_ok-after.after c.in_ok-after.ensures

pub returns-clause-settled : goal.returns-clause-settled
returns-clause-settled c =
    (settle_whole c.args.past.now c.args.raised.now c.args.inodes.now c.args.named.now c.args.own c.args.concerned.now c.loop-node.node-index c.loop-node.after
    c.loop-node-test.false c.loop-node.invariant).settled

pub returns-clause-others : goal.returns-clause-others
returns-clause-others c =
    (settle_whole c.args.past.now c.args.raised.now c.args.inodes.now c.args.named.now c.args.own c.args.concerned.now c.loop-node.node-index c.loop-node.after
    c.loop-node-test.false c.loop-node.invariant).others
