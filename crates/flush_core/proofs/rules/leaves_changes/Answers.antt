use Rattle.std.proofs.Common.{refl}
use Rattle.flush_core.specs.Broken.{LeavesChange}
use Rattle.sfs_base.proofs.BasicTruth.{not_both}
use Rattle.flush_core.proofs.Searched.{found, none_more, none_at_all}
use Rattle.flush_core.proofs.rules.leaves_changes.Goals as goal

pub returns-then-leaves_change : goal.returns-then-leaves_change
returns-then-leaves_change c = (
  λ _. found
      (LeavesChange c.args.changes.now c.args.cut.now) c.args.changes.now c.loop-change.change-index c.change-item.result c.change-item.result
      c.loop-change-test.true c.change-item.is
      (c.leaves_change.ensures.0 c.if-leaves_change.true),
  λ _. refl,
)

pub loop-change-preserved : goal.loop-change-preserved
loop-change-preserved c =
    none_more
    (LeavesChange c.args.changes.now c.args.cut.now) c.args.changes.now c.loop-change.change-index c.change-item.result c.change-item.result
    c.loop-change-test.true c.change-item.is c.loop-change.invariant
    (λ is. not_both (c.leaves_change.ensures.1 is) c.if-leaves_change.false)

pub returns : goal.returns
returns c =
    none_at_all (LeavesChange c.args.changes.now c.args.cut.now) c.args.changes.now c.loop-change.change-index c.loop-change-test.false c.loop-change.invariant
