use Rattle.std.proofs.Common.{get_or, ◌++◌, ◌∷◌, [], ◌∙◌, sym, ap}
use Rattle.sfs_base.specs.declared.numbers.NodeId.{NodeId}
use Rattle.dep_closure.specs.declared.gathered.NodeCut.{NodeCut}
use Rattle.fsync_gather.specs.Gathers.{cut_seen}
use Rattle.fsync_gather.proofs.Nodes.{given_next}
use Rattle.fsync_gather.proofs.flushed.gather_cuts.Goals as goal

pub loop-node-preserved : goal.loop-node-preserved
loop-node-preserved c =
    let node : NodeId = get_or c.args.held.now c.loop-node.node-index (record { 0 = 0 }) in
    let cut : NodeCut = record { node = node; cut = c.flushed_value.result.now.cut } in
    c.push.ensures.items ∙ ap (λ l. l ++ cut ∷ []) (c.in_ok-reserve.ensures.items ∙ c.loop-node.invariant)
    ∙ sym (given_next cut_seen c.args.nodes c.args.core.now.held c.args.held.now c.loop-node.node-index (record { 0 = 0 }) c.flushed_value.result.now
    c.loop-node-test.true c.flushed_value.ensures)
