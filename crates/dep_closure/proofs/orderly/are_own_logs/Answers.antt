use Rattle.std.proofs.Common.{true, subst, sym}
use Rattle.std.proofs.lemmas.List.{take_all}
use Rattle.std.proofs.lemmas.List.Elements.{All-more, All-same}
use Rattle.sfs_base.proofs.BasicTruth.{not_both}
use Rattle.dep_closure.specs.Gathered.{IsOwnLog}
use Rattle.dep_closure.proofs.orderly.are_own_logs.Goals as goal

pub returns-then-not-is_own_log : goal.returns-then-not-is_own_log
returns-then-not-is_own_log c = (
  λ e. absurd (cc),
  λ all. absurd
      (not_both
      (c.is_own_log.ensures.1 (subst IsOwnLog (sym c.log-item.is) (all c.loop-log.log-index c.log-item.result c.loop-log-test.true)))
      c.if-not-is_own_log.true),
)

pub loop-log-preserved : goal.loop-log-preserved
loop-log-preserved c =
    All-more IsOwnLog c.args.logs.now c.loop-log.log-index c.log-item.result c.loop-log-test.true c.loop-log.invariant
    (subst IsOwnLog c.log-item.is (c.is_own_log.ensures.0 c.if-not-is_own_log.false))

pub returns : goal.returns
returns c = (
  λ e. All-same IsOwnLog c.args.logs.now _ (sym (take_all c.loop-log.log-index c.args.logs.now c.loop-log-test.false)) c.loop-log.invariant,
  λ all. λ i. true,
)
