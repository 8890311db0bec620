-- The nodes by their numbers.
use Rattle.std.proofs.Common.{◌≡◌, ℕ, zero, suc, ◌+◌, ◌<◌, true, false, cond, List, [], ◌∷◌, ◌++◌, length, set, get_or, Option, Some, None, IsSome, ltb, option_map, refl, sym, ap, ◌∙◌, arith, nat_eq}
use borrow.Author.Tests.{eqb-true, eq-eqb, eqb-false, ltb-true, ltb-false}
use Rattle.std.specs.Ordering.{nat_cmp, eq_by_cmp}
use Rattle.std.specs.Cmp.{nat_cmp_total, unsigned_ties}
use Rattle.std.specs.FinMap.{FinMap, find, get, insert, get-from_entries, get-insert, same_map, nat_cmp-IsAntisymmetric}
use Rattle.std.proofs.lemmas.List.{get_or-set_same, get_or-set_other, get_or_past}
use Rattle.sfs_tree.specs.declared.nodes.NodeData.{NodeData}
use Rattle.tree_laws.specs.Tree.{Node}
use Rattle.tree_laws.specs.Effect.{Edit, edited, with_edit}
use Rattle.sfs_tree.specs.Nodes.{node_of, nodes_from, numbered}
use Rattle.sfs_base.proofs.BasicNumbers.{less_not_same}
use Rattle.sfs_base.proofs.BasicOptions.{none_not_some, none_some}

-- the node at a place
pub node_at : List (Option NodeData) → ℕ → Option Node
node_at nodes place = option_map node_of (get_or nodes place None)

find_lower : (number : ℕ) (nodes : List (Option NodeData)) (x : ℕ) → x < number → find nat_cmp x (nodes_from number nodes) ≡ None
find_lower number [] x lt = refl
find_lower number (None ∷ nodes) x lt = find_lower (suc number) nodes x (omega arith)
find_lower number (Some n ∷ nodes) x lt =
    ap (λ b. cond b (Some (node_of n)) (find nat_cmp x (nodes_from (suc number) nodes))) (sym (unsigned_ties x number) ∙ less_not_same x number (omega arith))
    ∙ find_lower (suc number) nodes x (omega arith)

find_nodes : (number : ℕ) (nodes : List (Option NodeData)) (k x : ℕ) → number + k ≡ x → find nat_cmp x (nodes_from number nodes) ≡ node_at nodes k
unfolding node_at
find_nodes number [] k x e = refl
find_nodes number (None ∷ nodes) zero x e = find_lower (suc number) nodes x (omega arith)
find_nodes number (None ∷ nodes) (suc k) x e = find_nodes (suc number) nodes k x (omega arith)
find_nodes number (Some n ∷ nodes) zero x e =
    ap (λ b. cond b (Some (node_of n)) (find nat_cmp x (nodes_from (suc number) nodes))) (sym (unsigned_ties x number) ∙ eq-eqb x number (omega arith))
find_nodes number (Some n ∷ nodes) (suc k) x e =
    ap (λ b. cond b (Some (node_of n)) (find nat_cmp x (nodes_from (suc number) nodes))) (sym (unsigned_ties x number) ∙ other x number (omega arith))
    ∙ find_nodes (suc number) nodes k x (omega arith)
  where
    other : (a b : ℕ) → b < a → nat_eq a b ≡ false
    other a b lt =
        elim (nat_eq a b) as (λ t. nat_eq a b ≡ t → t ≡ false) [ true ↦ λ e. absurd (let same = eqb-true _ _ e in omega arith) | false ↦ λ _. refl ] refl

pub get-numbered : (nodes : List (Option NodeData)) (x : ℕ) → get (numbered nodes) x ≡ option_map node_of (get_or nodes x None)
unfolding node_at
get-numbered nodes x = get-from_entries nat_cmp_total (nodes_from 0 nodes) x ∙ find_nodes 0 nodes x x (omega arith)

-- to store a node is to insert it
pub numbered-set : (nodes : List (Option NodeData)) (x : ℕ) (n : NodeData) → x < length nodes
    → numbered (set nodes x (Some n)) ≡ insert (numbered nodes) x (node_of n)
numbered-set nodes x n lt =
    same_map nat_cmp_total nat_cmp-IsAntisymmetric _ _ (λ y.
    get-numbered (set nodes x (Some n)) y
    ∙ stored y
    ∙ sym (get-insert nat_cmp_total (numbered nodes) x (node_of n) y))
  where
    stored : (y : ℕ) → option_map node_of (get_or (set nodes x (Some n)) y None) ≡ cond (eq_by_cmp nat_cmp y x) (Some (node_of n)) (get (numbered nodes) y)
    stored y =
        elim (nat_eq y x) as (λ t. nat_eq y x ≡ t
        → option_map node_of (get_or (set nodes x (Some n)) y None) ≡ cond t (Some (node_of n)) (get (numbered nodes) y)) [
          | true ↦
              λ t. ap (λ k. option_map node_of (get_or (set nodes x (Some n)) k None)) (eqb-true _ _ t)
              ∙ ap (option_map node_of) (get_or-set_same nodes x (Some n) None lt)
          | false ↦ λ t. ap (option_map node_of) (get_or-set_other nodes x y (Some n) None (eqb-false _ _ t)) ∙ sym (get-numbered nodes y)
        ] refl
        ∙ ap (λ b. cond b (Some (node_of n)) (get (numbered nodes) y)) (unsigned_ties y x)

none_behind : (nodes : List (Option NodeData)) (k : ℕ) → get_or (nodes ++ None ∷ []) k None ≡ get_or nodes k None
none_behind [] zero = refl
none_behind [] (suc k) = refl
none_behind (n ∷ nodes) zero = refl
none_behind (n ∷ nodes) (suc k) = none_behind nodes k

-- an empty place behind the last changes nothing
pub numbered-push : (nodes : List (Option NodeData)) → numbered (nodes ++ None ∷ []) ≡ numbered nodes
numbered-push nodes =
    same_map nat_cmp_total nat_cmp-IsAntisymmetric _ _
    (λ y. get-numbered (nodes ++ None ∷ []) y ∙ ap (option_map node_of) (none_behind nodes y) ∙ sym (get-numbered nodes y))

-- a node has a place
pub numbered_within : (nodes : List (Option NodeData)) (x : ℕ) → IsSome (get (numbered nodes) x) → x < length nodes
numbered_within nodes x some =
    elim (ltb x (length nodes)) as (λ b. ltb x (length nodes) ≡ b → x < length nodes) [
      | true ↦ λ t. ltb-true _ _ t
      | false ↦ λ t. absurd (none_not_some _ (get-numbered nodes x ∙ ap (option_map node_of) (get_or_past nodes x None (ltb-false _ _ t))) some)
    ] refl

-- to put a node that is there again changes nothing
pub put_same : (nodes : FinMap nat_cmp Node) (k : ℕ) (n : Node) → get nodes k ≡ Some n → insert nodes k n ≡ nodes
put_same nodes k n is =
    same_map nat_cmp_total nat_cmp-IsAntisymmetric _ _ (λ y.
    get-insert nat_cmp_total nodes k n y
    ∙ elim (eq_by_cmp nat_cmp y k) as (λ t. eq_by_cmp nat_cmp y k ≡ t → cond t (Some n) (get nodes y) ≡ get nodes y) [
      | true ↦ λ t. sym is ∙ ap (get nodes) (sym (eqb-true y k (unsigned_ties y k ∙ t)))
      | false ↦ λ t. refl
    ] refl)

-- a node that is there, as it is stored and as it is seen
module _ (places : List (Option NodeData)) (k : ℕ) (n : NodeData) (at : get_or places k None ≡ Some n) where
  pub seen : get (numbered places) k ≡ Some (node_of n)
  seen = get-numbered places k ∙ ap (option_map node_of) at

  seen_within : k < length places
  seen_within =
      elim (ltb k (length places)) as (λ b. ltb k (length places) ≡ b → k < length places) [
        | true ↦ λ t. ltb-true _ _ t
        | false ↦ λ t. absurd (none_some (sym (get_or_past places k None (ltb-false _ _ t)) ∙ at))
      ] refl

  pub numbered_same : (other : NodeData) → node_of other ≡ node_of n → numbered (set places k (Some other)) ≡ numbered places
  numbered_same other e = numbered-set places k other seen_within ∙ ap (insert (numbered places) k) e ∙ put_same (numbered places) k (node_of n) seen

  pub numbered_edited : (other : NodeData) (edit : Edit) → node_of other ≡ record (node_of n) { bytes = edited edit (node_of n).bytes }
      → numbered (set places k (Some other)) ≡ with_edit (numbered places) k edit (get (numbered places) k)
  numbered_edited other edit e =
      numbered-set places k other seen_within ∙ ap (insert (numbered places) k) e
      ∙ sym (ap (with_edit (numbered places) k edit) seen)
