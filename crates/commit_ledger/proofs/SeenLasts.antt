-- How last commits are set, node by node.
use Rattle.std.specs.Prelude.{find, option_map, is_some}
use Rattle.std.proofs.Common.{◌≡◌, ◌+◌, ◌∷◌, ◌++◌, ◌<◌, ◌≤◌, ◌||◌, ◌∙◌, ℕ, Bool, true, false, cond, List, [], length, get_or, set, take, drop, Some, None, inl, inr, refl, sym, ap, subst, nat_eq}
use Rattle.std.proofs.lemmas.Bool.{eqb-true}
use Rattle.std.proofs.lemmas.List.{get_or-set_same, get_or-set_other, take_more, drop_more, drop_all}
use Rattle.sfs_base.proofs.BasicTruth.{true_or_false}
use Rattle.slot_laws.specs.declared.label.Seen.{Seen}
use Rattle.slot_laws.specs.Nodes.{LastCommit, no_last, last_ended, last_seen, returned_last}
use Rattle.slot_laws.proofs.NodesTold.{other_by_test}
use Rattle.commit_ledger.specs.View.{LedgerView, last_at, is_moved, as_it_is, moved_in}

-- a list once the last commit of one node was set
set_one : (lasts : List LastCommit) (place : ℕ) (last : LastCommit) (node : ℕ) → place < length lasts
    → last_at (set lasts place last) node ≡ cond (nat_eq place node) last (last_at lasts node)
set_one lasts place last node within = elim (true_or_false (nat_eq place node)) [
  | inl same ↦
      subst (λ (n : ℕ). last_at (set lasts place last) n ≡ last) (eqb-true place node same) (get_or-set_same lasts place last no_last within)
      ∙ sym (ap (λ (b : Bool). cond b last (last_at lasts node)) same)
  | inr apart ↦
      get_or-set_other lasts place node last no_last (λ e. other_by_test place node apart (sym e))
      ∙ sym (ap (λ (b : Bool). cond b last (last_at lasts node)) apart)
]

-- a node is one of these and one more
one_more : (seen : List Seen) (one : Seen) (node : ℕ)
    → is_some (last_seen (seen ++ one ∷ []) node) ≡ (is_some (last_seen seen node) || nat_eq one.node.0 node)
one_more [] one node = elim (nat_eq one.node.0 node) as (λ b. is_some (option_map (λ (s : Seen). s.last) (cond b (Some one) None)) ≡ b) [
  | true ↦ refl
  | false ↦ refl
]
one_more (first ∷ rest) one node =
    elim (nat_eq first.node.0 node) as (λ b. is_some (option_map (λ (s : Seen). s.last)
    (cond b (Some first) (find (λ (s : Seen). nat_eq s.node.0 node) (rest ++ one ∷ []))))
    ≡ (is_some (option_map (λ (s : Seen). s.last) (cond b (Some first) (find (λ (s : Seen). nat_eq s.node.0 node) rest))) || nat_eq one.node.0 node)) [
      | true ↦ refl
      | false ↦ one_more rest one node
    ]

module _ (old : List LastCommit) (seen : List Seen) where
  -- the nodes of the first so many have this last commit
  abbrev pub AreSet : LastCommit → ℕ → List LastCommit → Type 0
  AreSet last count lasts = (node : ℕ) → last_at lasts node ≡ cond (is_some (last_seen (take count seen) node)) last (last_at old node)

  pub set_more : (last : LastCommit) (count : ℕ) (lasts : List LastCommit) (other : Seen) → AreSet last count lasts → count < length seen
      → (get_or seen count other).node.0 < length lasts → AreSet last (count + 1) (set lasts (get_or seen count other).node.0 last)
  set_more last count lasts other sets within placed node =
      let one = get_or seen count other in
      set_one lasts one.node.0 last node placed
      ∙ ap (λ (l : LastCommit). cond (nat_eq one.node.0 node) last l) (sets node)
      ∙ joined (is_some (last_seen (take count seen) node)) (nat_eq one.node.0 node)
      ∙ ap (λ (b : Bool). cond b last (last_at old node))
      (sym (one_more (take count seen) one node) ∙ ap (λ (s : List Seen). is_some (last_seen s node)) (sym (take_more seen count other within)))
    where
      joined : (b a : Bool) → cond a last (cond b last (last_at old node)) ≡ cond (b || a) last (last_at old node)
      joined true true = refl
      joined true false = refl
      joined false true = refl
      joined false false = refl

  -- the nodes of those from a place on have the last commit that was seen first
  abbrev pub AreBack : ℕ → List LastCommit → Type 0
  AreBack place lasts = (node : ℕ) → last_at lasts node ≡ returned_last (last_seen (drop place seen) node) (last_at old node)

  pub back_more : (place : ℕ) (lasts : List LastCommit) (one : Seen) → AreBack (place + 1) lasts → place < length seen → one ≡ get_or seen place one
      → one.node.0 < length lasts → AreBack place (set lasts one.node.0 (last_ended one.last))
  back_more place lasts one back within is placed node =
      set_one lasts one.node.0 (last_ended one.last) node placed
      ∙ ap (λ (l : LastCommit). cond (nat_eq one.node.0 node) (last_ended one.last) l) (back node)
      ∙ joined (nat_eq one.node.0 node)
      ∙ ap (λ (s : List Seen). returned_last (last_seen s node) (last_at old node))
      (ap (λ (s : Seen). s ∷ drop (place + 1) seen) is ∙ sym (drop_more seen place one within))
    where
      joined : (b : Bool) → cond b (last_ended one.last) (returned_last (last_seen (drop (place + 1) seen) node) (last_at old node))
          ≡ returned_last (option_map (λ (s : Seen). s.last) (cond b (Some one) (find (λ (s : Seen). nat_eq s.node.0 node) (drop (place + 1) seen))))
          (last_at old node)
      joined true = refl
      joined false = refl

module _ (ledger : LedgerView) (seen : List Seen) where
  -- the first that has moved is among those from a place on
  abbrev pub MovesFrom : ℕ → Type 0
  MovesFrom place = find (is_moved ledger) (drop place seen) ≡ find (is_moved ledger) seen

  module _ (place : ℕ) (one : Seen) (from : MovesFrom place) (within : place < length seen) (is : one ≡ get_or seen place one) where
    from_there : cond (is_moved ledger one) (Some one) (find (is_moved ledger) (drop (place + 1) seen)) ≡ find (is_moved ledger) seen
    from_there =
        ap (λ (s : Seen). find (is_moved ledger) (s ∷ drop (place + 1) seen)) is
        ∙ sym (ap (find (is_moved ledger)) (drop_more seen place one within)) ∙ from

    pub moved_here : is_moved ledger one ≡ true → Some (as_it_is ledger one) ≡ moved_in ledger seen
    moved_here moved =
        ap (option_map (as_it_is ledger))
        (sym (ap (λ (b : Bool). cond b (Some one) (find (is_moved ledger) (drop (place + 1) seen))) moved) ∙ from_there)

    pub moved_later : is_moved ledger one ≡ false → MovesFrom (place + 1)
    moved_later still =
        sym (ap (λ (b : Bool). cond b (Some one) (find (is_moved ledger) (drop (place + 1) seen))) still) ∙ from_there

  pub none_moved : (place : ℕ) → length seen ≤ place → MovesFrom place → None ≡ moved_in ledger seen
  none_moved place past from = ap (option_map (as_it_is ledger)) (sym (ap (find (is_moved ledger)) (drop_all place seen past)) ∙ from)
