use Rattle.std.proofs.Common.{◌+◌, ◌*◌, sym, ap, ◌∙◌, arith}
use Rattle.std.specs.FinMap.{empty}
use Rattle.std.proofs.lemmas.List.{get_or_past, get_or_read}
use Rattle.sfs_tree.specs.RowsState.{RowsState}
use Rattle.tree_laws.specs.Tree.{bucket_rows}
use Rattle.tree_laws.proofs.Names.{bucket_rows-joined}
use Rattle.sfs_tree.proofs.rows.Rows.bucket.Goals as goal

pub returns-then-place-len-clause-none : goal.returns-then-place-len-clause-none
returns-then-place-len-clause-none c =
    ap (λ (s : RowsState). bucket_rows c.args.directory c.args.number s.rows) (sym c.self.view_is)
    ∙ bucket_rows-joined c.self.inside.buckets.items c.args.directory c.args.number c.requires c.self.invariant.rows
    ∙ get_or_past c.self.inside.buckets.items (8 * c.args.directory + c.args.number) empty (omega (arith, c.self.inside.buckets.ok.0))

pub returns-clause-found : goal.returns-clause-found
returns-clause-found c =
    get_or_read c.self.inside.buckets.items (8 * c.args.directory + c.args.number) c.index.result.now
    (omega (arith, c.self.inside.buckets.ok.0)) c.index.ensures empty
    ∙ sym (bucket_rows-joined c.self.inside.buckets.items c.args.directory c.args.number c.requires c.self.invariant.rows)
    ∙ ap (λ (s : RowsState). bucket_rows c.args.directory c.args.number s.rows) c.self.view_is
