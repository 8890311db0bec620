-- The kinds that changes tell of their children.
use Rattle.std.specs.Prelude.{ℕ, ◌==◌, List, reverse, flat_map, Option, option_map}
use Rattle.std.specs.List.{find}
use Rattle.sfs_base.specs.declared.numbers.Kind.{Kind}
use Rattle.sfs_base.specs.declared.numbers.NodeId.{NodeId}
use Rattle.sfs_base.specs.declared.numbers.Stamp.{Stamp}
use Rattle.tree_laws.specs.declared.changes.Change.{Change}
use Rattle.dep_closure.specs.declared.gathered.Gathered.{Gathered}
use Rattle.dep_closure.specs.Gathered.{span_in}

-- the kind that changes tell of a node: that of the last one that names it
abbrev pub kind_told : List Change → ℕ → Option Kind
kind_told changes node = option_map (λ change. change.kind) (find (λ change. change.child.0 == node) (reverse changes))

-- the changes in the spans of nodes, one node after the other
abbrev pub spans_in : Gathered → Stamp → List NodeId → List Change
spans_in gathered below nodes = flat_map (λ node. span_in gathered below node.0) nodes
