use Rattle.std.proofs.Common.{Option, ℕ, sym, subst, ◌∙◌, ap, Some, take, ◌+◌}
use Rattle.std.proofs.lemmas.List.{take_all}
use Rattle.flush_core.specs.Broken.{IsLatest}
use Rattle.sfs_base.proofs.BasicTruth.{not_both}
use Rattle.flush_core.proofs.Placings.{latest_more, latest_skip}
use Rattle.flush_core.proofs.rules.last_placing.Goals as goal
use Rattle.flush_core.proofs.rules.last_placing.Goals.{then-places_below, else-places_below}

pub loop-change-preserved : goal.loop-change-preserved
loop-change-preserved c = elim c.if-places_below.branch [
  | then-places_below w ↦
      subst (λ (o : Option ℕ). IsLatest (take (c.loop-change.change-index + 1) c.args.changes.now) c.args.node c.args.below o)
      (sym (w.last-is ∙ ap (λ (n : ℕ). Some n) w.later.ensures))
      (latest_more c.args.changes.now c.loop-change.change-index c.args.node c.args.below c.change-item.result c.change-item.result c.loop-change-test.true
      c.change-item.is c.loop-change.last c.loop-change.invariant
      (c.places_below.ensures.0 w.if-places_below.true))
  | else-places_below w ↦
      subst (λ (o : Option ℕ). IsLatest (take (c.loop-change.change-index + 1) c.args.changes.now) c.args.node c.args.below o) (sym w.last-is)
      (latest_skip c.args.changes.now c.loop-change.change-index c.args.node c.args.below c.change-item.result c.change-item.result c.loop-change-test.true
      c.change-item.is c.loop-change.last c.loop-change.invariant
      (λ places. not_both (c.places_below.ensures.1 places) w.if-places_below.false))
]

pub returns : goal.returns
returns c = rw (take_all c.loop-change.change-index c.args.changes.now c.loop-change-test.false) at c.loop-change.invariant
