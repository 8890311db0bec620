-- What a store of rows and nodes is seen as.
use Rattle.std.specs.Prelude.{ℕ, ◌<◌, ◌⊎◌, IsSome, refl}
use Rattle.std.specs.Coded.{Coded, code_by, coded×, coded_ℕ, coded_list}
use Rattle.std.specs.Ordering.{nat_cmp}
use Rattle.std.specs.FinMap.{FinMap, code, get}
use Rattle.tree_laws.specs.Order.{key_cmp}
use Rattle.tree_laws.specs.Tree.{Node, node_code}

-- the rows, the nodes, and how many numbers have a place
pub record StoreState : Type 0 where
  pub rows : FinMap key_cmp ℕ
  pub nodes : FinMap nat_cmp Node
  pub places : ℕ

-- how it is stored
abbrev pub store_code : Coded StoreState
store_code =
    code_by (FinMap key_cmp ℕ × (FinMap nat_cmp Node × ℕ))
    (coded× (code (coded× coded_ℕ (coded_list coded_ℕ)) coded_ℕ) (coded× (code coded_ℕ node_code) coded_ℕ)) (λ s. (s.rows, (s.nodes, s.places)))
    (λ p. record {
      rows = p.0;
      nodes = p.1.0;
      places = p.1.1;
    }) (λ _. refl)

-- a number has a place: it is a node's, or below the count of places
abbrev pub HasPlace : StoreState → ℕ → Type 0
HasPlace store number = IsSome (get store.nodes number) ⊎ (number < store.places)
