use Rattle.std.proofs.Common.{◌≡◌, ◌≤◌, ◌++◌, map, drop}
use Rattle.std.specs.FinMap.{entries, len}
use Rattle.tree_laws.specs.Tree.{names_of}
use Rattle.script.specs.TreeWalk.{item_of, items_of, child_item}
use Rattle.script.proofs.writing.tree.add_children.Given as goal

abbrev pub invariant-loop-left : goal.invariant-loop-left
invariant-loop-left l =
    let rows = names_of l.met.node.0 l.tree.rows in
    (l.left ≤ len rows) × (items_of l.unmet.items ≡ map (child_item (item_of l.met)) (drop l.left (entries rows)) ++ items_of l.fn.unmet.items)

abbrev pub decreases-loop-left : goal.decreases-loop-left
decreases-loop-left l = l.left
