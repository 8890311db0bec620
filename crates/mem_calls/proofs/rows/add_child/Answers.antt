use Rattle.std.proofs.Common.{sym, ap, subst, ◌∙◌, IsSome}
use Rattle.std.specs.FinMap.{get, remove}
use Rattle.mem_calls.proofs.RowsBack.{row_there, undone}
use Rattle.mem_calls.proofs.rows.add_child.Goals as goal

pub remove-requires : goal.remove-requires
remove-requires c =
    subst (λ m. IsSome (get m c.args.name.now)) (sym c.in_ok-add_row.ensures.ok) (row_there c.args.bucket.now.rows c.args.name.now c.args.child.0)

pub returns-in-Err-clause-err : goal.returns-in-Err-clause-err
returns-in-Err-clause-err c =
    let back = c.remove.ensures ∙ (ap (λ m. remove m c.args.name.now) c.in_ok-add_row.ensures.ok
    ∙ undone c.args.bucket.now.rows c.args.name.now c.args.child.0 c.requires.row) in
    λ i. record { rows = back i; directories = c.in-Err.ensures.err i; stands = c.args.bucket.now.stands }
