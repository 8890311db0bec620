use Rattle.std.proofs.Common.{Some, ap, sym, ◌∙◌, cond, nat_eq}
use Rattle.std.specs.Ordering.{nat_cmp}
use Rattle.std.specs.BTreeMap.{get}
use Rattle.flush_plan.proofs.Told.{told_more, at_number}
use Rattle.flush_plan.proofs.kinds.add_kinds.Goals as goal

pub loop-change-preserved : goal.loop-change-preserved
loop-change-preserved c = λ node.
    let change = c.change-item.result in
    let old = get nat_cmp c.args.kinds.now node in
    let told = told_more c.args.changes.now c.loop-change.change-index change node old c.loop-change-test.true c.change-item.is in
    c.in_ok-insert.ensures.updates.0 node
    ∙ ap (λ b. cond b (Some change.kind) (get nat_cmp c.loop-change.kinds node)) (at_number change.child.0 node)
    ∙ ap (cond (nat_eq change.child.0 node) (Some change.kind)) (c.loop-change.invariant node) ∙ sym told
