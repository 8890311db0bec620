use Rattle.std.proofs.Common.{ℕ, sym, ap, ◌∙◌}
use Rattle.std.specs.Prelude.{nat_le}
use Rattle.std.specs.FinMap.{len, len-empty}
use Rattle.sfs_base.specs.Name.{bucket}
use Rattle.tree_laws.specs.Order.{name_cmp}
use Rattle.tree_laws.specs.Tree.{TreeState, bucket_rows}
use Rattle.sfs_tree.proofs.tree.Tree.is_full.Goals as goal

pub returns-in-None : goal.returns-in-None
returns-in-None c =
    ap (nat_le 4096)
    (sym (len-empty name_cmp ℕ)
    ∙ ap len
    (sym c.in-None.ensures.none ∙ ap (λ b. bucket_rows c.args.dir.0 b c.self.inside.store.rows) c.bucket_of.ensures
    ∙ ap (λ (t : TreeState). bucket_rows c.args.dir.0 (bucket c.args.name.now) t.rows) c.self.view_is))
