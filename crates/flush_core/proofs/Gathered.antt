-- Sets to which the elements of a list add nodes, one after the other.
use Rattle.std.proofs.Common.{◌≡◌, ℕ, ◌+◌, ◌<◌, ◌≤◌, true, false, List, length, take, get_or, ◌↔◌, ◌⊎◌, inl, inr, sym, ◌∙◌}
use Rattle.std.proofs.lemmas.List.{take_all}
use Rattle.flush_core.specs.declared.sets.NodeSet.{NodeSet}
use Rattle.flush_core.specs.NodeSets.{has_node, with_member}
use Rattle.flush_core.specs.Engine.{Joins}
use Rattle.cut_laws.specs.Elements.{OfSome}
use Rattle.sfs_base.proofs.BasicTruth.{not_both}
use Rattle.cut_laws.proofs.Listed.{one_more, still_one, next_one}
use Rattle.flush_core.proofs.Marks.{with_in, with_kept, with_cases}

-- none of them has added any
pub gather_none : {X : Type 0} (BringsIn : X → ℕ → Type 0) (xs : List X) (start set : NodeSet) → ((node : ℕ) → has_node set node ≡ has_node start node)
    → Joins (OfSome (take 0 xs) BringsIn) start set
gather_none BringsIn xs start set same node = (λ is. inl (sym (same node) ∙ is), λ from. elim from [ inl is ↦ same node ∙ is | inr none ↦ absurd none.1 ])

-- one more has added its own
pub gather_more : {X : Type 0} (BringsIn : X → ℕ → Type 0) (xs : List X) (i : ℕ) (d v : X) (start before after : NodeSet) → i < length xs → v ≡ get_or xs i d
    → Joins (OfSome (take i xs) BringsIn) start before → Joins (BringsIn v) before after → Joins (OfSome (take (i + 1) xs) BringsIn) start after
gather_more BringsIn xs i d v start before after lt is first next node = (come, stay)
  where
    come : has_node after node ≡ true → (has_node start node ≡ true) ⊎ OfSome (take (i + 1) xs) BringsIn node
    come has = elim ((next node).0 has) [
      | inl old ↦ elim ((first node).0 old) [ inl own ↦ inl own | inr some ↦ inr (some.0, still_one xs i d some.0 lt some.1, some.2) ]
      | inr brings ↦ inr (v, next_one xs i d v lt is, brings)
    ]

    stay : (has_node start node ≡ true) ⊎ OfSome (take (i + 1) xs) BringsIn node → has_node after node ≡ true
    stay (inl own) = (next node).1 (inl ((first node).1 (inl own)))
    stay (inr (x, one, brings)) = elim (one_more xs i d v x lt is one) [
      | inl before_it ↦ (next node).1 (inl ((first node).1 (inr (x, before_it, brings))))
      | inr e ↦ (next node).1 (inr (rw e brings))
    ]

-- all of them have
pub gather_all : {X : Type 0} (BringsIn : X → ℕ → Type 0) (xs : List X) (i : ℕ) (start set : NodeSet) → length xs ≤ i
    → Joins (OfSome (take i xs) BringsIn) start set → Joins (OfSome xs BringsIn) start set
gather_all BringsIn xs i start set le joins = rw (take_all i xs le) at joins

-- a node is put in
pub join_one : (More : ℕ → Type 0) (node : ℕ) (set joined : NodeSet) → ((x : ℕ) → has_node joined x ≡ with_member node true (has_node set) x) → More node
    → ((x : ℕ) → More x → node ≡ x) → Joins More set joined
join_one More node set joined put is only x = (
  λ has. elim (with_cases node x (has_node set) (sym (put x) ∙ has)) [ inl e ↦ inr (rw e at is) | inr old ↦ inl old ],
  λ from. elim from [
    | inl old ↦ put x ∙ with_kept node x (has_node set) old
    | inr more ↦ rw (only x more) at (put node ∙ with_in node true (has_node set))
  ],
)

-- none is
pub join_none : (More : ℕ → Type 0) (set joined : NodeSet) → ((x : ℕ) → has_node joined x ≡ has_node set x) → ((x : ℕ) → More x → ⊥) → Joins More set joined
join_none More set joined same none x = (λ has. inl (sym (same x) ∙ has), λ from. elim from [ inl old ↦ same x ∙ old | inr more ↦ absurd (none x more) ])

-- all of them have, and there was none at the start
pub gather_alone : {X : Type 0} (BringsIn : X → ℕ → Type 0) (xs : List X) (i : ℕ) (start set : NodeSet) → length xs ≤ i
    → ((node : ℕ) → has_node start node ≡ false) → Joins (OfSome (take i xs) BringsIn) start set → (node : ℕ)
    → (has_node set node ≡ true) ↔ OfSome xs BringsIn node
gather_alone BringsIn xs i start set le none joins node =
    let all = gather_all BringsIn xs i start set le joins in
    (λ has. elim ((all node).0 has) [ inl own ↦ absurd (not_both own (none node)) | inr some ↦ some ], λ some. (all node).1 (inr some))
