use Rattle.std.proofs.Common.{refl}
use Rattle.flush_core.specs.Broken.{LacksAncestor}
use Rattle.sfs_base.proofs.BasicTruth.{not_both}
use Rattle.flush_core.proofs.Searched.{found, none_more, none_at_all}
use Rattle.flush_core.proofs.rules.lacks_ancestors.Goals as goal

pub returns-then-lacks_ancestor : goal.returns-then-lacks_ancestor
returns-then-lacks_ancestor c = (
  λ _. found
      (LacksAncestor c.args.changes.now c.args.cut.now) c.args.changes.now c.loop-change.change-index c.change-item.result c.change-item.result
      c.loop-change-test.true c.change-item.is
      (c.lacks_ancestor.ensures.0 c.if-lacks_ancestor.true),
  λ _. refl,
)

pub loop-change-preserved : goal.loop-change-preserved
loop-change-preserved c =
    none_more
    (LacksAncestor c.args.changes.now c.args.cut.now) c.args.changes.now c.loop-change.change-index c.change-item.result c.change-item.result
    c.loop-change-test.true c.change-item.is c.loop-change.invariant
    (λ is. not_both (c.lacks_ancestor.ensures.1 is) c.if-lacks_ancestor.false)

pub returns : goal.returns
returns c =
    none_at_all (LacksAncestor c.args.changes.now c.args.cut.now) c.args.changes.now c.loop-change.change-index c.loop-change-test.false c.loop-change.invariant
