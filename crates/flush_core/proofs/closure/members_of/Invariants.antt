use Rattle.std.proofs.Common.{◌≡◌, ◌-◌, ◌^◌, ℕ, true, List}
use Rattle.tree_laws.specs.declared.history.Entry.{Entry}
use Rattle.tree_laws.specs.Tree.{TreeState}
use Rattle.cut_laws.specs.Closure.{every_entry, Closure}
use Rattle.flush_core.specs.NodeSets.{has_node}
use Rattle.flush_core.specs.Past.{IsPast}
use Rattle.flush_core.proofs.Counting.{count_below}
use Rattle.flush_core.proofs.closure.members_of.Given as goal

abbrev pub invariant-loop-required : goal.invariant-loop-required
invariant-loop-required l = record {
  own : has_node l.members l.node ≡ true;
  sound : (first : TreeState) (history : List Entry) → IsPast first history l.past → (node : ℕ) → has_node l.members node ≡ true
      → Closure first history every_entry l.cut (has_node l.inodes) (record { node = l.node; stamp = l.stamp }) node;
}

abbrev pub decreases-loop-required : goal.decreases-loop-required
decreases-loop-required l = 2 ^ 32 - count_below (has_node l.members) (2 ^ 32)
