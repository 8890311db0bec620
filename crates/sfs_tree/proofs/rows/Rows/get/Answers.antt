use Rattle.std.proofs.Common.{sym, ap, ◌∙◌}
use Rattle.std.specs.FinMap.{get, get-empty}
use Rattle.tree_laws.specs.Order.{name_cmp}
use Rattle.tree_laws.specs.Tree.{bucket_rows}
use Rattle.tree_laws.proofs.Names.{get-own_bucket}
use Rattle.sfs_tree.proofs.rows.Rows.get.Goals as goal

pub returns-in-Some : goal.returns-in-Some
returns-in-Some c =
    c.get.ensures
    ∙ ap (λ m. get m c.args.name.now) (c.in-Some.ensures.found ∙ ap (λ b. bucket_rows c.args.directory b c.args.self.now.rows) c.bucket_of.ensures)
    ∙ get-own_bucket c.args.directory c.args.name.now c.args.self.now.rows

pub returns-in-None : goal.returns-in-None
returns-in-None c =
    sym (get-empty name_cmp c.args.name.now)
    ∙ ap (λ m. get m c.args.name.now) (sym c.in-None.ensures.none ∙ ap (λ b. bucket_rows c.args.directory b c.args.self.now.rows) c.bucket_of.ensures)
    ∙ get-own_bucket c.args.directory c.args.name.now c.args.self.now.rows
