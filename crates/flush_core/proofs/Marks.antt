-- The places of marks, gathered one by one.
use Rattle.std.proofs.Common.{◌≡◌, ◌≢◌, ℕ, zero, suc, ◌+◌, ◌<◌, ◌≤◌, ◌↔◌, Bool, true, false, cond, List, [], ◌∷◌, ◌++◌, length, get_or, ◌⊎◌, inl, inr, refl, sym, ap, ◌∙◌, nat_eq, arith}
use borrow.Author.Tests.{eqb-true, eqb-false, eq-eqb}
use Rattle.flush_core.specs.NodeSets.{with_member}
use Rattle.cut_laws.specs.Rules.{IsOneOf}
use Rattle.cut_laws.proofs.Basics.{in_either, in_left, in_right}
use Rattle.sfs_base.proofs.BasicTruth.{not_both}

-- a list has the marked places below this one
abbrev pub AreMarkedBelow : List Bool → ℕ → List ℕ → Type 0
AreMarkedBelow marks place list = (node : ℕ) → IsOneOf list node ↔ ((node < place) × (get_or marks node false ≡ true))

same_or_below : (node place : ℕ) → node < place + 1 → (node < place) ⊎ (place ≡ node)
same_or_below node place lt = elim (nat_eq node place) as (λ b. nat_eq node place ≡ b → (node < place) ⊎ (place ≡ node)) [
  | true ↦ λ e. inr (sym (eqb-true _ _ e))
  | false ↦ λ e. inl (let differ : node ≢ place = eqb-false _ _ e in omega arith)
] refl

pub marked_more : (marks : List Bool) (place : ℕ) (list : List ℕ) → AreMarkedBelow marks place list → get_or marks place false ≡ true
    → AreMarkedBelow marks (place + 1) (list ++ place ∷ [])
marked_more marks place list below mark node = (
  λ one. elim (in_either list (place ∷ []) node one) [
    | inl left ↦ let h = (below node).0 left in (let lt = h.0 in omega arith, h.1)
    | inr right ↦ elim right [ inl e ↦ (omega arith, ap (λ k. get_or marks k false) (sym e) ∙ mark) | inr none ↦ absurd none ]
  ],
  λ (lt, is). elim (same_or_below node place lt) [
    | inl less ↦ in_left list (place ∷ []) node ((below node).1 (less, is))
    | inr e ↦ in_right list (place ∷ []) node (inl e)
  ],
)

pub marked_skip : (marks : List Bool) (place : ℕ) (list : List ℕ) → AreMarkedBelow marks place list → get_or marks place false ≡ false
    → AreMarkedBelow marks (place + 1) list
marked_skip marks place list below mark node = (
  λ one. let h = (below node).0 one in (let lt = h.0 in omega arith, h.1),
  λ (lt, is). elim (same_or_below node place lt) [
    | inl less ↦ (below node).1 (less, is)
    | inr e ↦ absurd (not_both is (ap (λ k. get_or marks k false) (sym e) ∙ mark))
  ],
)

-- nodes of which one is put in
pub with_in : (node : ℕ) (is_in : Bool) (nodes : ℕ → Bool) → with_member node is_in nodes node ≡ is_in
with_in node is_in nodes = ap (λ b. cond b is_in (nodes node)) (eq-eqb node node refl)

pub with_other : (node x : ℕ) (is_in : Bool) (nodes : ℕ → Bool) → x ≢ node → with_member node is_in nodes x ≡ nodes x
with_other node x is_in nodes differ = elim (nat_eq x node) as (λ b. nat_eq x node ≡ b → cond b is_in (nodes x) ≡ nodes x) [
  | true ↦ λ e. absurd (differ (eqb-true _ _ e))
  | false ↦ λ _. refl
] refl

pub with_kept : (node x : ℕ) (nodes : ℕ → Bool) → nodes x ≡ true → with_member node true nodes x ≡ true
with_kept node x nodes is = elim (nat_eq x node) as (λ b. cond b true (nodes x) ≡ true) [ true ↦ refl | false ↦ is ]

pub with_cases : (node x : ℕ) (nodes : ℕ → Bool) → with_member node true nodes x ≡ true → (node ≡ x) ⊎ (nodes x ≡ true)
with_cases node x nodes = elim (nat_eq x node) as (λ b. nat_eq x node ≡ b → cond b true (nodes x) ≡ true → (node ≡ x) ⊎ (nodes x ≡ true)) [
  | true ↦ λ e _. inl (sym (eqb-true _ _ e))
  | false ↦ λ _ is. inr is
] refl

-- a place with a mark is one of the places
pub marked_within : (marks : List Bool) (node : ℕ) → get_or marks node false ≡ true → node < length marks
marked_within [] node mark = absurd (not_both mark refl)
marked_within (m ∷ marks) zero mark = omega arith
marked_within (m ∷ marks) (suc node) mark = let h = marked_within marks node mark in omega arith

-- no place has been looked at
pub marked_none : (marks : List Bool) (list : List ℕ) → list ≡ [] → AreMarkedBelow marks 0 list
marked_none marks list none node = (λ one. absurd (rw none at one), λ (lt, is). absurd (omega arith))

-- all places have
pub marked_all : (marks : List Bool) (place : ℕ) (list : List ℕ) → length marks ≤ place → AreMarkedBelow marks place list → (node : ℕ)
    → IsOneOf list node ↔ (get_or marks node false ≡ true)
marked_all marks place list le below node = (
  λ one. ((below node).0 one).1,
  λ is. let lt = marked_within marks node is in (below node).1 (omega arith, is),
)
