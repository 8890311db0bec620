-- Nodes of a list.
use Rattle.std.specs.List.Sorted.{IsStrictlyIncreasing}
use Rattle.std.proofs.Common.{◌≡◌, ◌<◌, ◌||◌, ◌∷◌, ◌++◌, ◌∙◌, ℕ, zero, suc, Bool, true, false, List, [], map, length, take, get_or, Some, is_some, refl, ap, subst, arith}
use Rattle.std.specs.Prelude.{if◌then◌else◌, nat_eq}
use Rattle.std.proofs.Math.ListN.{get_or-map as get_or-mapped}
use Rattle.std.proofs.lemmas.List.{length-map, map-append, get_or-take, length-take}
use Rattle.std.proofs.lemmas.List.Kept.{AllPairs-from_increasing}
use Rattle.std.proofs.lemmas.List.Folds.{list_any-append, list_any_none}
use Rattle.sfs_base.specs.Listed.{is_listed}
use Rattle.sfs_base.specs.declared.numbers.NodeId.{NodeId}
use Rattle.sfs_base.proofs.BasicNumbers.{less_not_same}
use Rattle.sfs_base.proofs.BasicTruth.{or_false}
use Rattle.tree_laws.specs.NameRow.{node_number}
use Rattle.keyed_list.specs.Ascending.{AscendBy, item_with}
use Rattle.log_copy.specs.Copies.{is_one_of}

-- whether a node is listed is whether an item has its number
pub listed_item : (nodes : List NodeId) (n : ℕ) → is_listed (map node_number nodes) n ≡ is_some (item_with node_number n nodes)
listed_item [] n = refl
listed_item (node ∷ nodes) n = by (nat_eq node.0 n) (listed_item nodes n)
  where
    by : (b : Bool) → is_listed (map node_number nodes) n ≡ is_some (item_with node_number n nodes)
        → (b || is_listed (map node_number nodes) n) ≡ is_some (if b then Some node else item_with node_number n nodes)
    by true rest = refl
    by false rest = rest

-- nodes whose numbers rise ascend
pub nodes_ascend : (nodes : List NodeId) → IsStrictlyIncreasing (map node_number nodes) → AscendBy node_number nodes
nodes_ascend nodes up i j d less within =
    let pairs = AllPairs-from_increasing (map node_number nodes) up i j d.0 less (rw length-map within) in
    subst (λ k. k < (get_or nodes j d).0) (get_or-mapped node_number nodes i d)
    (subst (λ k. get_or (map node_number nodes) i d.0 < k) (get_or-mapped node_number nodes j d) pairs)

-- one node more is listed besides those before it
pub listed_more : (nodes : List NodeId) (node : NodeId) (n : ℕ) → is_one_of (nodes ++ node ∷ []) n ≡ (is_one_of nodes n || nat_eq node.0 n)
listed_more nodes node n =
    ap (λ l. is_listed l n) (map-append node_number nodes (node ∷ []))
    ∙ list_any-append (λ listed. nat_eq listed n) (map node_number nodes) (node.0 ∷ [])
    ∙ ap (λ b. is_one_of nodes n || b) (or_false (nat_eq node.0 n))

-- what is read within a list is not the default
same_read : {X : Type 0} (xs : List X) (i : ℕ) (d e : X) → i < length xs → get_or xs i d ≡ get_or xs i e
same_read [] i d e within = absurd (omega (arith, within))
same_read (x ∷ xs) zero d e within = refl
same_read (x ∷ xs) (suc i) d e within = same_read xs i d e (omega (arith, within))

-- a node is none of those before it
pub not_before : (nodes : List NodeId) → IsStrictlyIncreasing (map node_number nodes) → (i : ℕ) (d : NodeId) → i < length nodes
    → is_one_of (take i nodes) (get_or nodes i d).0 ≡ false
not_before nodes up i d within =
    list_any_none (λ listed. nat_eq listed (get_or nodes i d).0) (map node_number (take i nodes)) (λ k e less.
    let long = length-map (take i nodes) node_number in
    let few = length-take i nodes in
    let early : k < i = omega (arith, less, long, few, within) in
    let there : get_or (map node_number (take i nodes)) k e ≡ (get_or nodes k (record { 0 = e })).0 =
    get_or-mapped node_number (take i nodes) k (record { 0 = e }) ∙ ap node_number (get_or-take i nodes k (record { 0 = e }) early) in
    let rise : (get_or nodes k (record { 0 = e })).0 < (get_or nodes i d).0 =
    subst (λ (n : NodeId). (get_or nodes k (record { 0 = e })).0 < n.0) (same_read nodes i (record { 0 = e }) d within)
    (nodes_ascend nodes up k i (record { 0 = e }) early within) in
    less_not_same _ _ (omega (arith, there, rise)))
