-- How nodes are stored: each at its number.
use Rattle.std.specs.Prelude.{ℕ, suc, List, [], ◌∷◌, Option, Some, None}
use Rattle.std.specs.Ordering.{nat_cmp}
use Rattle.std.specs.FinMap.{FinMap, from_entries}
use Rattle.sfs_tree.specs.declared.nodes.NodeData.{NodeData}
use Rattle.tree_laws.specs.Tree.{Node}

-- a node as it is stored
abbrev pub node_of : NodeData → Node
node_of n = record { kind = n.kind; bytes = n.bytes.items }

-- the nodes by their numbers, the first of which is this one
abbrev pub nodes_from : ℕ → List (Option NodeData) → List (ℕ × Node)
nodes_from number [] = []
nodes_from number (None ∷ nodes) = nodes_from (suc number) nodes
nodes_from number (Some n ∷ nodes) = (number, node_of n) ∷ nodes_from (suc number) nodes

-- all nodes
abbrev pub numbered : List (Option NodeData) → FinMap nat_cmp Node
numbered nodes = from_entries (nodes_from 0 nodes)
