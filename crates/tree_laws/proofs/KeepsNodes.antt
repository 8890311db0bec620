-- Nodes that are made, and bytes that change, keep a tree sound and its nodes numbered.
use Rattle.std.proofs.Common.{◌≡◌, ◌≢◌, ℕ, true, false, cond, List, Some, None, IsSome, ◌⊎◌, inl, inr, refl, sym, ap, subst, ◌∙◌, nat_eq}
use borrow.Author.Tests.{eqb-true, eqb-false}
use Rattle.std.specs.Option.{option_map_or}
use Rattle.std.specs.Ordering.{nat_cmp}
use Rattle.std.specs.Cmp.{nat_cmp_total, unsigned_ties}
use Rattle.std.specs.FinMap.{FinMap, get, insert, get-insert}
use Rattle.tree_laws.specs.Tree.{TreeState, Node, is_directory, is_directory_kind}
use Rattle.tree_laws.specs.Effect.{Edit, edited, with_edit}
use Rattle.tree_laws.specs.Sound.{IsSound}
use Rattle.tree_laws.proofs.KeepsSound.{above_up}
use Rattle.sfs_base.proofs.BasicOptions.{none_not_some}

-- what is found once a node came: it, or what was there
pub node_cases : (nodes : FinMap nat_cmp Node) (k : ℕ) (v : Node) (x : ℕ)
    → ((x ≡ k) × (get (insert nodes k v) x ≡ Some v)) ⊎ ((x ≢ k) × (get (insert nodes k v) x ≡ get nodes x))
node_cases nodes k v x =
    let found : get (insert nodes k v) x ≡ cond (nat_eq x k) (Some v) (get nodes x) =
    get-insert nat_cmp_total nodes k v x ∙ ap (λ b. cond b (Some v) (get nodes x)) (sym (unsigned_ties x k)) in
    elim (nat_eq x k) as (λ b. nat_eq x k ≡ b → ((x ≡ k) × (get (insert nodes k v) x ≡ Some v)) ⊎ ((x ≢ k) × (get (insert nodes k v) x ≡ get nodes x))) [
      | true ↦ λ t. inl (eqb-true _ _ t, found ∙ ap (λ b. cond b (Some v) (get nodes x)) t)
      | false ↦ λ t. inr (eqb-false _ _ t, found ∙ ap (λ b. cond b (Some v) (get nodes x)) t)
    ] refl

-- a directory is a node
pub directory_node : (tree : TreeState) (node : ℕ) → is_directory tree node ≡ true → IsSome (get tree.nodes node)
directory_node tree node kind =
    elim (get tree.nodes node) as (λ o. option_map_or (λ (n : Node). is_directory_kind n.kind) o false ≡ true → IsSome o) [
      | Some n ↦ λ k. refl
      | None ↦ λ k. cc
    ] kind

-- a tree with other nodes
abbrev pub with_nodes : TreeState → FinMap nat_cmp Node → List ℕ → TreeState
with_nodes tree nodes made = record tree { nodes = nodes; made = made }

-- nodes with the same kinds, and perhaps further ones
pub record KeepKinds (tree : TreeState) (nodes : FinMap nat_cmp Node) (made : List ℕ) : Type 0 where
  pub node : (x : ℕ) → IsSome (get tree.nodes x) → IsSome (get nodes x)
  pub kind : (x : ℕ) → IsSome (get tree.nodes x) → is_directory (with_nodes tree nodes made) x ≡ is_directory tree x

pub IsSound-nodes : (tree : TreeState) (nodes : FinMap nat_cmp Node) (made : List ℕ) → IsSound tree → KeepKinds tree nodes made
    → IsSound (with_nodes tree nodes made)
IsSound-nodes tree nodes made s keep =
    let next = with_nodes tree nodes made in
    record {
      root = keep.kind 0 (directory_node tree 0 s.root) ∙ s.root;
      unnamed = s.unnamed;
      node = λ d n x row. keep.node x (s.node d n x row);
      once = λ d o n k x p q kind. s.once d o n k x p q (sym (keep.kind x (s.node d n x p)) ∙ kind);
      holds = λ d n x row. let both = s.holds d n x row in (keep.kind d (directory_node tree d both.0) ∙ both.0, both.1);
      climbs = λ d n x row kind. let way = s.climbs d n x row (sym (keep.kind x (s.node d n x row)) ∙ kind) in (way.0, above_up tree next (λ e k y r. r) way.1);
    }

kind_at : (tree : TreeState) (nodes : FinMap nat_cmp Node) (made : List ℕ) (x : ℕ) → get nodes x ≡ get tree.nodes x
    → is_directory (with_nodes tree nodes made) x ≡ is_directory tree x
kind_at tree nodes made x same = ap (λ o. option_map_or (λ (n : Node). is_directory_kind n.kind) o false) same

-- a new node
pub KeepKinds-new : (tree : TreeState) (number : ℕ) (node : Node) (made : List ℕ) → get tree.nodes number ≡ None
    → KeepKinds tree (insert tree.nodes number node) made
KeepKinds-new tree number node made fresh = record {
  node = λ x some. subst IsSome (sym (same x some)) some;
  kind = λ x some. kind_at tree _ made x (same x some);
}
  where
    same : (x : ℕ) → IsSome (get tree.nodes x) → get (insert tree.nodes number node) x ≡ get tree.nodes x
    same x some = elim (node_cases tree.nodes number node x) [
      | inl new ↦ absurd (none_not_some _ fresh (subst (λ (y : ℕ). IsSome (get tree.nodes y)) new.0 some))
      | inr old ↦ old.1
    ]

-- other bytes
pub KeepKinds-edit : (tree : TreeState) (file : ℕ) (edit : Edit) (made : List ℕ) → KeepKinds tree (with_edit tree.nodes file edit (get tree.nodes file)) made
KeepKinds-edit tree file edit made =
    elim (get tree.nodes file) as (λ o. get tree.nodes file ≡ o → KeepKinds tree (with_edit tree.nodes file edit o) made) [
      | None ↦ λ e. record { node = λ x some. some; kind = λ x some. refl }
      | Some n ↦ λ e. record {
        node = λ x some. elim (node_cases tree.nodes file (record n { bytes = edited edit n.bytes }) x) [
          | inl here ↦ subst IsSome (sym here.1) refl
          | inr other ↦ subst IsSome (sym other.1) some
        ];
        kind = λ x some. elim (node_cases tree.nodes file (record n { bytes = edited edit n.bytes }) x) [
          | inl here ↦
              ap (λ o. option_map_or (λ (n : Node). is_directory_kind n.kind) o false) here.1
              ∙ sym (ap (λ o. option_map_or (λ (n : Node). is_directory_kind n.kind) o false) (ap (get tree.nodes) here.0 ∙ e))
          | inr other ↦ kind_at tree _ made x other.1
        ];
      }
    ] refl
