use Rattle.std.proofs.Common.{◌≡◌, true, ℕ}
use Rattle.flush_core.specs.Engine.{RequiresNodeFor}
use Rattle.flush_core.specs.NodeSets.{has_node}
use Rattle.cut_laws.proofs.Listed.{one_at, more_hold, all_hold}
use Rattle.flush_core.proofs.closure.node_of_change.Goals as goal

pub returns-in-Some : goal.returns-in-Some
returns-in-Some c = (
  (
    c.change-item.result,
    one_at c.args.changes.now c.loop-change.change-index c.change-item.result c.change-item.result c.loop-change-test.true c.change-item.is,
    c.in-Some.ensures.0,
  ),
  c.in-Some.ensures.1,
)

pub loop-change-preserved : goal.loop-change-preserved
loop-change-preserved c =
    more_hold
    (λ change. (node : ℕ) → RequiresNodeFor c.args.cut.now c.args.stamp c.args.members.now change node → has_node c.args.members.now node ≡ true)
    c.args.changes.now c.loop-change.change-index c.change-item.result c.change-item.result c.loop-change-test.true c.change-item.is
    c.loop-change.invariant c.in_default.ensures

pub returns : goal.returns
returns c = λ node brought.
    all_hold
    (λ change. (node : ℕ) → RequiresNodeFor c.args.cut.now c.args.stamp c.args.members.now change node → has_node c.args.members.now node ≡ true)
    c.args.changes.now c.loop-change.change-index c.loop-change-test.false c.loop-change.invariant brought.0 brought.1 node brought.2
