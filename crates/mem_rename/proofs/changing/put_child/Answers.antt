use Rattle.std.proofs.Common.{◌≡◌, List, ℕ, ap, sym, subst, ◌∙◌, IsSome}
use Rattle.std.specs.FinMap.{FinMap, get, insert}
use Rattle.tree_laws.specs.Order.{name_cmp}
use Rattle.mem_rename.specs.Moving.{row_again}
use Rattle.mem_rename.proofs.RowsBack.{put_is_there, undone}
use Rattle.mem_rename.proofs.changing.put_child.Goals as goal

pub put_back-requires : goal.put_back-requires
put_back-requires c =
    let put : c.put_row.new.rows ≡ insert c.args.bucket.now.rows c.args.name.now c.args.shift.child.0 =
    c.in_ok-left.ensures.ok ∙ ap (λ (n : List ℕ). insert c.args.bucket.now.rows n c.args.shift.child.0) c.requires.row in
    subst (λ (r : FinMap name_cmp ℕ). IsSome (get r c.args.name.now)) (sym put) (put_is_there c.args.bucket.now.rows c.args.name.now c.args.shift.child.0)

pub returns-in-Err-clause-err : goal.returns-in-Err-clause-err
returns-in-Err-clause-err c =
    let put : c.put_row.new.rows ≡ insert c.args.bucket.now.rows c.args.name.now c.args.shift.child.0 =
    c.in_ok-left.ensures.ok ∙ ap (λ (n : List ℕ). insert c.args.bucket.now.rows n c.args.shift.child.0) c.requires.row in
    let rows = c.put_back.ensures ∙
    (ap (row_again c.args.name.now c.args.shift.there) put
    ∙ undone c.args.bucket.now.rows c.args.name.now c.args.shift.child.0 c.args.shift.there c.requires.there.rows) in
    λ i. record { rows = rows i; directories = c.in-Err.ensures.err i; stands = c.args.bucket.now.stands }
