use Rattle.std.proofs.Common.{◌≡◌, ◌≤◌, ◌<◌, ◌∷◌, [], ◌++◌, ◌∙◌, sym, ap, subst, length, take, Some, filter, arith, List}
use Rattle.std.specs.Prelude.{slice_get}
use Rattle.sfs_base.proofs.BasicOptions.{none_some, some_same}
use Rattle.tree_laws.specs.declared.changes.Change.{Change}
use Rattle.mem_cells.specs.Log.{IsInOrder}
use Rattle.mem_cells.specs.Part.{changes_kept}
use Rattle.log_merge.specs.Merge.{is_under}
use Rattle.log_merge.proofs.Owned.{front_below, front_more, below_more_own, in_order_front}
use Rattle.log_merge.proofs.merging.own_changes.Goals as goal
use Rattle.log_merge.proofs.merging.own_changes.Goals.{in-Some+then-change-below, in_default}

pub loop-change-preserved : goal.loop-change-preserved
loop-change-preserved c =
    let kept = changes_kept c.args.part.now c.args.dir.0 in
    let own = c.loop-change.own.items in
    let change = c.in-Some.change.now in
    let long : c.len.result ≡ length own = omega (arith, c.loop-change.own.ok.0) in
    let next : slice_get kept (length own) ≡ Some change = ap (slice_get kept) (sym long) ∙ sym c.in-Some.ensures.value in
    let less : change.stamp.0 < c.args.below.0 = omega arith in
    let pushed = c.in_ok-push.ensures.items ∙ ap (λ (one : Change). own ++ one ∷ []) c.in_ok-copy.ensures.ok in
    record {
      front = subst (λ (those : List Change). those ≡ take (length those) kept) (sym pushed) (front_more kept own change c.loop-change.invariant.front next);
      below =
          subst (λ (those : List Change). filter (is_under c.args.below.0) those ≡ those) (sym pushed)
          (below_more_own c.args.below.0 own change c.loop-change.invariant.below less);
    }

pub returns-clause-own : goal.returns-clause-own
returns-clause-own c =
    let kept = changes_kept c.args.part.now c.args.dir.0 in
    let own = c.loop-change.own.items in
    let long : c.len.result ≡ length own = omega (arith, c.loop-change.own.ok.0) in
    let ends = front_below c.args.below.0 kept own c.get.ensures.ordered c.loop-change.invariant.front c.loop-change.invariant.below in
    elim c.match-get.branch [
      | in-Some+then-change-below w ↦
          ends
          (λ change next. let same : w.in-Some.change.now ≡ change = some_same (w.in-Some.ensures.value ∙ ap (slice_get kept) long ∙ next) in
          subst (λ (one : Change). c.args.below.0 ≤ one.stamp.0) same w.if-change-below.true)
      | in_default w ↦ ends (λ change next. absurd (none_some (w.in_default.ensures.value ∙ ap (slice_get kept) long ∙ next)))
    ]

pub returns-clause-order : goal.returns-clause-order
returns-clause-order c =
    subst IsInOrder (sym c.loop-change.invariant.front)
    (in_order_front (length c.loop-change.own.items) (changes_kept c.args.part.now c.args.dir.0) c.get.ensures.ordered)
