use Rattle.std.proofs.Common.{get_or, refl}
use Rattle.flush_core.specs.declared.past.BornNode.{BornNode}
use Rattle.flush_core.specs.Broken.{IsBornLate}
use Rattle.sfs_base.proofs.BasicTruth.{not_both}
use Rattle.flush_core.proofs.Searched.{found, none_more, none_at_all}
use Rattle.flush_core.proofs.rules.bears_late.Goals as goal

no_birth : BornNode
no_birth = record { stamp = 0; directory = 0; node = 0 }

pub returns-then-is_born_late : goal.returns-then-is_born_late
unfolding no_birth
returns-then-is_born_late c = (
  λ _. found (IsBornLate c.args.changes.now c.args.cut.now) c.args.births.now c.loop-born.born-index no_birth
      (get_or c.args.births.now c.loop-born.born-index no_birth) c.loop-born-test.true refl (c.is_born_late.ensures.0 c.if-is_born_late.true),
  λ _. refl,
)

pub loop-born-preserved : goal.loop-born-preserved
unfolding no_birth
loop-born-preserved c =
    none_more (IsBornLate c.args.changes.now c.args.cut.now) c.args.births.now c.loop-born.born-index no_birth
    (get_or c.args.births.now c.loop-born.born-index no_birth) c.loop-born-test.true refl c.loop-born.invariant
    (λ is. not_both (c.is_born_late.ensures.1 is) c.if-is_born_late.false)

pub returns : goal.returns
returns c = none_at_all (IsBornLate c.args.changes.now c.args.cut.now) c.args.births.now c.loop-born.born-index c.loop-born-test.false c.loop-born.invariant
