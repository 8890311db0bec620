use Rattle.std.proofs.Common.{refl}
use Rattle.flush_core.specs.Broken.{IsSplit}
use Rattle.sfs_base.proofs.BasicTruth.{not_both}
use Rattle.flush_core.proofs.Searched.{found, none_more, none_at_all}
use Rattle.flush_core.proofs.rules.splits_rename.Goals as goal

pub returns-then-is_split : goal.returns-then-is_split
returns-then-is_split c = (
  λ _. found
      (IsSplit c.args.cut.now) c.args.changes.now c.loop-change.change-index c.change-item.result c.change-item.result c.loop-change-test.true c.change-item.is
      (c.is_split.ensures.0 c.if-is_split.true),
  λ _. refl,
)

pub loop-change-preserved : goal.loop-change-preserved
loop-change-preserved c =
    none_more
    (IsSplit c.args.cut.now) c.args.changes.now c.loop-change.change-index c.change-item.result c.change-item.result c.loop-change-test.true
    c.change-item.is c.loop-change.invariant
    (λ is. not_both (c.is_split.ensures.1 is) c.if-is_split.false)

pub returns : goal.returns
returns c = none_at_all (IsSplit c.args.cut.now) c.args.changes.now c.loop-change.change-index c.loop-change-test.false c.loop-change.invariant
