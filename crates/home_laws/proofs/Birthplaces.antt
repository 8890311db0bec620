-- The directory in which a node was made stays the one.
use Rattle.std.specs.FinMap.{get}
use Rattle.std.specs.Option.{option_or}
use Rattle.std.proofs.Common.{◌++◌, ◌≡◌, ◌∷◌, ◌∙◌, ◌==◌, if◌then◌else◌, List, [], refl, ap, sym, append_assoc, ℕ, Bool, find, Some, ⊎_elim, inl, eqb-true, inr, None, true, eq-eqb, IsSome, Option, option_map}
use Rattle.std.proofs.lemmas.Bool.{cases_Bool}
use Rattle.tree_laws.specs.Tree.{TreeState}
use Rattle.tree_laws.specs.declared.history.Entry.{Entry}
use Rattle.tree_laws.specs.History.{tree_after_entry, IsLegal, tree_after}
use Rattle.tree_laws.specs.Verdict.{verdict}
use Rattle.tree_laws.specs.Laws.{IsSoundTree}
use Rattle.std.proofs.lemmas.List.Folds.{find-append}
use Rattle.cut_laws.specs.Rules.{Birth, births_of, births_by, IsOneOf}
use Rattle.cut_laws.proofs.NewNodes.{births_are_new_nodes}
use Rattle.mem_values.proofs.Moves.{legal_front}
use Rattle.home_laws.specs.Laws.{BirthplacesStay}

-- the births of a longer history begin with those of a shorter one
record MoreBirths (first : TreeState) (calls more : List Entry) : Type 0 where
  rest : List Birth
  births_are : births_of first (calls ++ more) ≡ births_of first calls ++ rest

more_births : (first : TreeState) (calls more : List Entry) → MoreBirths first calls more
more_births first [] more = record { rest = births_of first more; births_are = refl }
more_births first (entry ∷ calls) more =
    let r = more_births (tree_after_entry first entry) calls more in
    let own = births_by entry.stamp.0 (verdict first entry.core.0 entry.call).effect (verdict first entry.core.0 entry.call).makes in
    record {
      rest = r.rest;
      births_are = ap (λ l. own ++ l) r.births_are ∙ sym (append_assoc own (births_of (tree_after_entry first entry) calls) r.rest);
    }

abbrev is_of : ℕ → Birth → Bool
is_of node birth = birth.node == node

-- what is found is one of the births, and none is of a node that is not found
found_birth : (node : ℕ) (births : List Birth) (birth : Birth) → find (is_of node) births ≡ Some birth → IsOneOf births birth × (birth.node ≡ node)
found_birth node [] birth found = absurd (cc found)
found_birth node (b ∷ births) birth found = ⊎_elim
    (λ is. let same : b ≡ birth = cc (ap (λ t. if t then Some b else find (is_of node) births) is, found) in
    (inl same, ap (λ (x : Birth). x.node) (sym same) ∙ eqb-true b.node node is))
    (λ not. let r = found_birth node births birth (sym (ap (λ t. if t then Some b else find (is_of node) births) not) ∙ found) in (inr r.0, r.1))
    (cases_Bool (is_of node b))

not_found : (node : ℕ) (births : List Birth) (birth : Birth) → IsOneOf births birth → birth.node ≡ node → find (is_of node) births ≡ None → ⊥
not_found node [] birth among is none = among
not_found node (b ∷ births) birth among is none = elim among [
  | inl same ↦
      let here : is_of node b ≡ true = eq-eqb b.node node (ap (λ (x : Birth). x.node) same ∙ is) in
      cc (sym (ap (λ t. if t then Some b else find (is_of node) births) here) ∙ none)
  | inr there ↦ ⊎_elim
      (λ yes. cc (sym (ap (λ t. if t then Some b else find (is_of node) births) yes) ∙ none))
      (λ not. not_found node births birth there is (sym (ap (λ t. if t then Some b else find (is_of node) births) not) ∙ none))
      (cases_Bool (is_of node b))
]

module _ (first : TreeState) (calls more : List Entry) (node : ℕ) (sound : IsSoundTree first) (legal : IsLegal first (calls ++ more))
    (there : IsSome (get (tree_after first calls).nodes node)) where
  -- a node that no birth brought before is none of those that come
  none_later : find (is_of node) (births_of first calls) ≡ None → (o : Option Birth) → find (is_of node) (births_of first (calls ++ more)) ≡ o → o ≡ None
  none_later none None found = refl
  none_later none (Some birth) found =
      let b = found_birth node (births_of first (calls ++ more)) birth found in
      let new = ((births_are_new_nodes first (calls ++ more) node sound legal).0 (birth, b.0, b.1)).1 in
      let old = (births_are_new_nodes first calls node sound (legal_front first 0 calls more legal)).1 (there, new) in
      absurd (not_found node (births_of first calls) old.0 old.1 old.2 none)

  same_birth : (o : Option Birth) → find (is_of node) (births_of first calls) ≡ o → find (is_of node) (births_of first (calls ++ more)) ≡ o
  same_birth None none = none_later none (find (is_of node) (births_of first (calls ++ more))) refl
  same_birth (Some birth) found = let m = more_births first calls more in
      ap (find (is_of node)) m.births_are
      ∙ (find-append (is_of node) (births_of first calls) m.rest ∙ ap (λ o. option_or o (find (is_of node) m.rest)) found)

pub birthplaces_stay : BirthplacesStay
birthplaces_stay first calls more node sound legal there =
    ap (option_map (λ (b : Birth). b.directory)) (same_birth first calls more node sound legal there (find (is_of node) (births_of first calls)) refl)
