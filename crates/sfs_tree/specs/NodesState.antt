-- What nodes by their numbers are seen as.
use Rattle.std.specs.Prelude.{ℕ, refl}
use Rattle.std.specs.Coded.{Coded, code_by, coded×, coded_ℕ}
use Rattle.std.specs.Ordering.{nat_cmp}
use Rattle.std.specs.FinMap.{FinMap, code}
use Rattle.tree_laws.specs.Tree.{Node, node_code}

-- the nodes, and how many numbers have a place
pub record NodesState : Type 0 where
  pub nodes : FinMap nat_cmp Node
  pub places : ℕ

-- how they are stored
abbrev pub nodes_code : Coded NodesState
nodes_code =
    code_by (FinMap nat_cmp Node × ℕ) (coded× (code coded_ℕ node_code) coded_ℕ) (λ s. (s.nodes, s.places)) (λ p. record { nodes = p.0; places = p.1 })
    (λ _. refl)
