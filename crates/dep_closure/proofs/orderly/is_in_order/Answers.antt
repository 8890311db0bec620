use Rattle.std.proofs.Common.{arith, sym, ◌∙◌}
use borrow.Author.Tests.{leb-true, leb-false}
use Rattle.dep_closure.proofs.Parts.{one_more_in_order, falls_in_order}
use Rattle.dep_closure.proofs.orderly.is_in_order.Goals as goal

pub returns-then-not-is_no_later : goal.returns-then-not-is_no_later
returns-then-not-is_no_later c = (
  λ e. absurd (cc),
  λ order. absurd
      (falls_in_order c.args.changes.now order c.loop-at.at
      (omega arith) c.loop-at-test.true c.index-changes-at.result c.index-changes-at-in-loop-at.result c.index-changes-at.is
      c.index-changes-at-in-loop-at.is
      (leb-false _ _ (sym c.is_no_later.ensures ∙ c.if-not-is_no_later.true))),
)

pub loop-at-preserved : goal.loop-at-preserved
loop-at-preserved c =
    one_more_in_order c.args.changes.now c.loop-at.at c.loop-at.invariant
    (omega arith) c.loop-at-test.true c.index-changes-at.result c.index-changes-at-in-loop-at.result c.index-changes-at.is c.index-changes-at-in-loop-at.is
    (leb-true _ _ (sym c.is_no_later.ensures ∙ c.if-not-is_no_later.false))
