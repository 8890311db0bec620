use Rattle.std.proofs.Common.{◌≤◌, ℕ, sym, ap, subst, ◌∙◌}
use Rattle.std.specs.FinMap.{len}
use Rattle.tree_laws.specs.Tree.{TreeState, bucket_rows}
use Rattle.table_totals.proofs.Cells.{bucket_counts, bucket_few}
use Rattle.table_totals.proofs.Moments.{may_on, same_held, worked_on}
use Rattle.table_totals.proofs.parts.count_bucket.Goals as goal

pub returns-clause-saw : goal.returns-clause-saw
returns-clause-saw g c =
    worked_on c.args.shared.now c.args.core.now c.hold_more.new.core c.let_all_go.new.core c.requires.may.between c.hold_more.ensures.gains.on
    c.let_all_go.ensures.on c.let_all_go.ensures.none c.let_all_go.ensures.idle

pub returns-clause-may : goal.returns-clause-may
returns-clause-may g c =
    may_on c.args.core.now c.let_all_go.new.core
    (worked_on c.args.shared.now c.args.core.now c.hold_more.new.core c.let_all_go.new.core c.requires.may.between c.hold_more.ensures.gains.on
    c.let_all_go.ensures.on c.let_all_go.ensures.none c.let_all_go.ensures.idle) c.args.shared.now c.requires.may

pub returns-clause-rows : goal.returns-clause-rows
returns-clause-rows g c = λ none.
    c.len-rows.ensures
    ∙ (bucket_counts c.args.shared.now c.args.nodes c.requires.table c.args.core.now c.hold_more.new.core _ c.hold_more.ensures.gains
    c.hold_more.ensures.work.first c.args.node c.requires.node c.args.number c.bucket_in.result.now c.requires.number c.bucket_in.ensures
    ∙ ap (λ (tree : TreeState). len (bucket_rows c.args.node.0 c.args.number tree.rows))
    (same_held c.args.core.now c.hold_more.new.core c.let_all_go.new.core c.hold_more.ensures.gains.on c.let_all_go.ensures.on none))

pub returns-clause-few : goal.returns-clause-few
returns-clause-few g c =
    subst (λ (n : ℕ). n ≤ 4096) (sym c.len-rows.ensures)
    (bucket_few c.args.shared.now c.args.nodes c.requires.table c.args.core.now c.hold_more.new.core _ c.hold_more.ensures.gains
    c.hold_more.ensures.work.first c.args.node c.requires.node c.args.number c.bucket_in.result.now c.requires.number c.bucket_in.ensures)
