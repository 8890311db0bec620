-- The places of a ledger's lists.
use Rattle.std.proofs.Common.{◌≡◌, ◌≢◌, ◌⊎◌, ◌<◌, ◌∙◌, ℕ, List, length, get_or, set, Option, Some, None, inl, inr, sym, subst, nat_eq}
use Rattle.std.proofs.lemmas.Bool.{eqb-true, cases_lt}
use Rattle.std.proofs.lemmas.List.{get_or-set_same, get_or-set_other, get_or_past}
use Rattle.sfs_base.proofs.BasicTruth.{true_or_false}
use Rattle.sfs_base.proofs.BasicOptions.{none_some}
use Rattle.slot_laws.proofs.NodesTold.{other_by_test}

-- two numbers are one or not
pub one_or_two : (a b : ℕ) → (a ≡ b) ⊎ (a ≢ b)
one_or_two a b = elim (true_or_false (nat_eq a b)) [
  | inl same ↦ inl (eqb-true a b same)
  | inr apart ↦ inr (other_by_test a b apart)
]

module _ {X : Type 0} (row : List (Option X)) (place : ℕ) where
  -- what is found at a place is within
  pub found_within : (one : X) → get_or row place None ≡ Some one → place < length row
  found_within one found = elim (cases_lt place (length row)) [
    | inl within ↦ within
    | inr past ↦ absurd (none_some (sym (get_or_past row place None past) ∙ found))
  ]

  -- What is found once a place was set: there what was put, and elsewhere what was there.
  pub data FoundAfter (put : Option X) (other : ℕ) (two : X) : Type 0 where
    found_put : other ≡ place → put ≡ Some two → FoundAfter put other two
    found_kept : other ≢ place → get_or row other None ≡ Some two → FoundAfter put other two

  pub found_after : place < length row → (put : Option X) (other : ℕ) (two : X) → get_or (set row place put) other None ≡ Some two
      → FoundAfter put other two
  found_after within put other two found = elim (one_or_two other place) [
    | inl same ↦
        found_put same
        (sym (get_or-set_same row place put None within) ∙ subst (λ (k : ℕ). get_or (set row place put) k None ≡ Some two) same found)
    | inr apart ↦ found_kept apart (sym (get_or-set_other row place other put None apart) ∙ found)
  ]
