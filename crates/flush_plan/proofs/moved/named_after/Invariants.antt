use Rattle.std.proofs.Common.{◌≡◌, ℕ, map, take}
use Rattle.std.specs.Prelude.{◌&&◌}
use Rattle.std.specs.Ordering.{nat_cmp}
use Rattle.std.specs.BTreeSet.{contains}
use Rattle.sfs_base.specs.Listed.{is_listed}
use Rattle.tree_laws.specs.NameRow.{node_number}
use Rattle.flush_plan.specs.Names.{is_named_after}
use Rattle.flush_plan.proofs.moved.named_after.Given as goal

abbrev pub invariant-loop-node : goal.invariant-loop-node
invariant-loop-node l =
    (node : ℕ)
    → contains nat_cmp l.named node ≡ (is_listed (map node_number (take l.node-index l.touched)) node && is_named_after l.old.items l.nets.items node)
