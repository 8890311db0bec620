use Rattle.std.proofs.Common.{refl}
use Rattle.flush_core.specs.Broken.{IsLeft}
use Rattle.sfs_base.proofs.BasicTruth.{not_both}
use Rattle.flush_core.proofs.Searched.{found, none_more, none_at_all}
use Rattle.flush_core.proofs.rules.has_left.Goals as goal

pub returns-then-is_left : goal.returns-then-is_left
returns-then-is_left c = (
  λ _. found
      (IsLeft c.args.cut.now c.args.directory) c.args.changes.now c.loop-change.change-index c.change-item.result c.change-item.result c.loop-change-test.true
      c.change-item.is
      (c.is_left.ensures.0 c.if-is_left.true),
  λ _. refl,
)

pub loop-change-preserved : goal.loop-change-preserved
loop-change-preserved c =
    none_more
    (IsLeft c.args.cut.now c.args.directory) c.args.changes.now c.loop-change.change-index c.change-item.result c.change-item.result c.loop-change-test.true
    c.change-item.is c.loop-change.invariant
    (λ is. not_both (c.is_left.ensures.1 is) c.if-is_left.false)

pub returns : goal.returns
returns c = none_at_all (IsLeft c.args.cut.now c.args.directory) c.args.changes.now c.loop-change.change-index c.loop-change-test.false c.loop-change.invariant
