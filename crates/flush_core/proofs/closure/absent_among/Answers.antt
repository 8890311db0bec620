use Rattle.std.proofs.Common.{◌≡◌, true, get_or, refl, sym, ◌∙◌}
use Rattle.flush_core.specs.NodeSets.{has_node}
use Rattle.cut_laws.proofs.Listed.{one_at, more_hold}
use Rattle.flush_core.proofs.closure.absent_among.Goals as goal

pub returns-then-not-has : goal.returns-then-not-has
returns-then-not-has c = (one_at c.args.nodes.now c.loop-node.node-index 0 _ c.loop-node-test.true refl, sym c.has.ensures ∙ c.if-not-has.true)

pub loop-node-preserved : goal.loop-node-preserved
loop-node-preserved c =
    more_hold (λ node. has_node c.args.members.now node ≡ true) c.args.nodes.now c.loop-node.node-index 0
    (get_or c.args.nodes.now c.loop-node.node-index 0) c.loop-node-test.true refl c.loop-node.invariant (sym c.has.ensures ∙ c.if-not-has.false)
