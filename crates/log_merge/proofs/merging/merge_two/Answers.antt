use Rattle.std.proofs.Common.{sym, subst}
use Rattle.std.specs.Prelude.{Option}
use Rattle.tree_laws.specs.declared.changes.Change.{Change}
use Rattle.log_merge.specs.Merge.{TakesNext}
use Rattle.log_merge.proofs.Taking.{MergesTo, merges_step}
use Rattle.log_merge.proofs.merging.merge_two.Goals as goal

pub loop-change-preserved : goal.loop-change-preserved
loop-change-preserved c =
    let first = c.loop-change.first.items in
    let second = c.loop-change.second.items in
    let first_after = c.take_next.new.first.items in
    let second_after = c.take_next.new.second.items in
    let takes = subst (λ (r : Option Change). TakesNext first second r first_after second_after) c.in-Some.is c.take_next.ensures in
    subst (MergesTo c.args.first.items c.args.second.items first_after second_after) (sym c.in_ok-push.ensures.items)
    (merges_step c.args.first.items c.args.second.items first second first_after second_after c.loop-change.both.items c.in-Some.change c.loop-change.invariant
    takes)
