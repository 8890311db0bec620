use Rattle.std.proofs.Common.{◌≡◌, false, sym, ap, ◌∙◌}
use Rattle.tree_laws.specs.Tree.{is_directory, is_alive}
use Rattle.tree_laws.specs.Changes.{RowChange, added, other_side}
use Rattle.flush_core.specs.declared.past.OwnChange.{OwnChange}
use Rattle.flush_core.specs.Past.{row_change_of}
use Rattle.flush_core.proofs.KeptAbove.{noted_taken, noted_put, noted_more}
use Rattle.flush_core.proofs.plan.planned_move.Goals as goal

pub returns-clause-above : goal.returns-clause-above
returns-clause-above c =
    noted_more c.args.tree.now c.push.new.self.items c.push-2.new.self.items c.in_ok-put.field-0 c.in_ok-push-2.ensures.items
    (noted_more c.args.tree.now c.in_ok-changes.changes.items c.push.new.self.items c.in_ok-taken.field-0 c.in_ok-push.ensures.items
    c.in_ok-changes.ensures.above
    (λ kind alive. noted_taken c.args.tree.now c.in_ok-taken.field-0 c.args.stamp c.args.dir.0 c.args.name.now c.in-Some.child.0 c.other_of.result false
    c.in_ok-taken.ensures.row c.in_ok-taken.ensures.above))
    (λ kind alive. noted_put c.args.tree.now change c.args.stamp c.args.dir.0 c.args.to_dir.0 c.args.to_name.now c.in-Some.child.0 c.requires row
    (rw c.in_ok-put.ensures.above c.in_ok-above.ensures)
    (ap (λ (x : RowChange). is_directory c.args.tree.now x.directory) (sym row) ∙ kind)
    (ap (λ (x : RowChange). is_alive c.args.tree.now x.directory) (sym row) ∙ alive))
  where
    change : OwnChange
    change = c.in_ok-put.field-0

    row : row_change_of change ≡ added c.args.stamp c.args.to_dir.0 c.args.to_name.now c.in-Some.child.0 (other_side c.args.to_dir.0 c.args.dir.0)
    row = c.in_ok-put.ensures.row ∙ ap (λ o. added c.args.stamp c.args.to_dir.0 c.args.to_name.now c.in-Some.child.0 o) c.other_of-2.ensures
