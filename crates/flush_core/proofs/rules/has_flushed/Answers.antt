use Rattle.std.proofs.Common.{refl}
use Rattle.flush_core.specs.Broken.{IsFlushedIn}
use Rattle.sfs_base.proofs.BasicTruth.{not_both}
use Rattle.flush_core.proofs.Searched.{found, none_more, none_at_all}
use Rattle.flush_core.proofs.rules.has_flushed.Goals as goal

pub returns-then-is_flushed_in : goal.returns-then-is_flushed_in
returns-then-is_flushed_in c = (
  λ _. found
      (IsFlushedIn c.args.cut.now c.args.directory) c.args.changes.now c.loop-change.change-index c.change-item.result c.change-item.result
      c.loop-change-test.true c.change-item.is
      (c.is_flushed_in.ensures.0 c.if-is_flushed_in.true),
  λ _. refl,
)

pub loop-change-preserved : goal.loop-change-preserved
loop-change-preserved c =
    none_more
    (IsFlushedIn c.args.cut.now c.args.directory) c.args.changes.now c.loop-change.change-index c.change-item.result c.change-item.result
    c.loop-change-test.true c.change-item.is c.loop-change.invariant
    (λ is. not_both (c.is_flushed_in.ensures.1 is) c.if-is_flushed_in.false)

pub returns : goal.returns
returns c =
    none_at_all (IsFlushedIn c.args.cut.now c.args.directory) c.args.changes.now c.loop-change.change-index c.loop-change-test.false c.loop-change.invariant
