use Rattle.std.proofs.Common.{sym, subst, refl}
use Rattle.tree_laws.specs.Buckets.{IsBuilt}
use Rattle.sfs_tree.proofs.Stored.{IsPlaced-new}
use Rattle.sfs_tree.proofs.rows.Rows.new.Goals as goal

pub invariant_of-result : goal.invariant_of-result
invariant_of-result c = subst IsBuilt (sym c.new.ensures.items) (record { eight = refl; rows = IsPlaced-new })
