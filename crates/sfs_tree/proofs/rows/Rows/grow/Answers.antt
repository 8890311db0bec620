use Rattle.std.proofs.Common.{sym, ap, subst, ◌∙◌}
use Rattle.sfs_tree.specs.RowsState.{RowsState}
use Rattle.tree_laws.specs.Buckets.{joined, IsBuilt}
use Rattle.sfs_tree.proofs.Stored.{IsBuilt-grown, joined-grown}
use Rattle.sfs_tree.proofs.rows.Rows.grow.Goals as goal

pub invariant_of-self-2 : goal.invariant_of-self-2
invariant_of-self-2 c = subst IsBuilt (sym c.in_ok-add_buckets.ensures.ok) (IsBuilt-grown c.self.inside.buckets.items c.self.invariant)

pub returns-clause-rows : goal.returns-clause-rows
returns-clause-rows c =
    ap joined c.in_ok-add_buckets.ensures.ok ∙ joined-grown c.self.inside.buckets.items 8 c.self.invariant.rows ∙ ap (λ (s : RowsState). s.rows) c.self.view_is
