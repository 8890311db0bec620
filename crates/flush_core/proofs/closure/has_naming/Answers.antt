use Rattle.std.proofs.Common.{arith, refl}
use Rattle.flush_core.specs.Engine.{NamesUnflushed}
use Rattle.cut_laws.proofs.Listed.{one_at, more_hold}
use Rattle.flush_core.proofs.closure.has_naming.Goals as goal
use Rattle.flush_core.proofs.closure.has_naming.Goals.{else-change-node-via-then-change-node+else-get-change, else-change-node-via-else-change-node}

pub returns-then-get-change : goal.returns-then-get-change
returns-then-get-change c = (
  λ _. (
    c.change-item.result,
    one_at c.args.changes.now c.loop-change.change-index c.change-item.result c.change-item.result c.loop-change-test.true c.change-item.is,
    record { child = c.if-change-node.true; unflushed = omega (arith, c.get.ensures) },
  ),
  λ _. refl,
)

pub loop-change-preserved : goal.loop-change-preserved
loop-change-preserved c =
    more_hold
    (λ change. NamesUnflushed c.args.cut.now c.args.node change → ⊥) c.args.changes.now c.loop-change.change-index c.change-item.result c.change-item.result
    c.loop-change-test.true c.change-item.is c.loop-change.invariant
    (λ names. elim c.else-change-node.branch [
      | else-change-node-via-then-change-node+else-get-change w ↦ let le = names.unflushed in omega (arith, w.get.ensures)
      | else-change-node-via-else-change-node w ↦ w.if-change-node.false names.child
    ])
