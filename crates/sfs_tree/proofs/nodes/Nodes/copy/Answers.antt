use Rattle.std.proofs.Common.{◌≡◌, map, option_map, List, ℕ, [], ◌∷◌, length, suc, Option, Some, None, ap, sym, ◌∙◌, refl}
use Rattle.std.proofs.lemmas.List.{take_all, length-map}
use Rattle.std.specs.FinMap.{from_entries}
use Rattle.sfs_tree.specs.declared.nodes.NodeData.{NodeData}
use Rattle.tree_laws.specs.Tree.{Node}
use Rattle.sfs_tree.specs.NodesState.{NodesState}
use Rattle.sfs_tree.specs.Nodes.{node_of, nodes_from, numbered}
use Rattle.sfs_tree.proofs.nodes.Nodes.copy.Goals as goal

-- nodes by their numbers, the first of which is this one
abbrev numbered_from : ℕ → List (Option Node) → List (ℕ × Node)
numbered_from number [] = []
numbered_from number (None ∷ nodes) = numbered_from (suc number) nodes
numbered_from number (Some n ∷ nodes) = (number, n) ∷ numbered_from (suc number) nodes

from_stored : (number : ℕ) (nodes : List (Option NodeData)) → nodes_from number nodes ≡ numbered_from number (map (option_map node_of) nodes)
from_stored number [] = refl
from_stored number (None ∷ nodes) = from_stored (suc number) nodes
from_stored number (Some n ∷ nodes) = ap (λ l. (number, node_of n) ∷ l) (from_stored (suc number) nodes)

-- nodes that look alike are seen alike
seen_alike : (nodes others : List (Option NodeData)) → map (option_map node_of) nodes ≡ map (option_map node_of) others
    → ◌≡◌ {A = NodesState} (record { nodes = numbered nodes; places = length nodes }) (record { nodes = numbered others; places = length others })
seen_alike nodes others same = λ i. record { nodes = rows i; places = places i }
  where
    rows : numbered nodes ≡ numbered others
    rows = ap from_entries (from_stored 0 nodes ∙ ap (numbered_from 0) same ∙ sym (from_stored 0 others))

    places : length nodes ≡ length others
    places = sym (length-map nodes (option_map node_of)) ∙ ap length same ∙ length-map others (option_map node_of)

pub returns : goal.returns
returns c =
    seen_alike c.loop-place.places.items c.self.inside.places.items
    (c.loop-place.invariant
    ∙ ap (map (option_map node_of))
    (take_all c.loop-place.place-index c.deref-place-items.result.now c.loop-place-test.false ∙ c.deref-place-items.ensures.value))
    ∙ c.self.view_is
