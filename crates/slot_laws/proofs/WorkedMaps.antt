-- The map of the longer worked history.
use Rattle.std.specs.Prelude.{option_map}
use Rattle.std.specs.List.Sorted.{IsStrictlyIncreasing}
use Rattle.std.proofs.Common.{◌≤◌, ◌≡◌, ◌∷◌, ◌-◌, ◌⊎◌, ◌∙◌, ℕ, None, nat_le, slice_get, [], arith, Bool, cond, true, false, refl, zero, inl, suc, inr, Option, sym, ap, List, subst, Some, All}
use Rattle.std.proofs.lemmas.Option.{slice_get_past}
use Rattle.sfs_base.specs.Listed.{is_listed}
use Rattle.sfs_base.proofs.BasicOptions.{none_some}
use Rattle.space_map.specs.declared.status.Status.{Status}
use Rattle.space_map.specs.Pool.{status_of, Changes, Pool, released, Ends, Grants}
use Rattle.space_map.specs.declared.status.Status.TheVariants.{Taken, Free, Granted}
use Rattle.slot_laws.specs.WorkedLonger.{two_numbers}
use Rattle.slot_laws.specs.Grants.{NoneGranted}

-- what lies behind two numbers is in no row of two
far : (one two : Status) (n : ℕ) → 2 ≤ n → status_of (two_numbers one two) n ≡ None
far one two n high = by (nat_le 0 n)
  where
    none : slice_get (one ∷ two ∷ []) (n - 0) ≡ None
    none = slice_get_past (one ∷ two ∷ []) (n - 0) (omega (arith, high))

    by : (b : Bool) → cond b (slice_get (one ∷ two ∷ []) (n - 0)) None ≡ None
    by true = none
    by false = refl

which : (n : ℕ) → (n ≡ 0) ⊎ (n ≡ 1) ⊎ (2 ≤ n)
which zero = inl refl
which (suc zero) = inr (inl refl)
which (suc (suc n)) = inr (inr (omega arith))

none_once : (b : Bool) (f : Status → Status) (o : Option Status) → o ≡ None → None ≡ cond b (option_map f o) o
none_once true f o none = sym (ap (option_map f) none)
none_once false f o none = sym none

none_twice : (b c : Bool) (f g : Status → Status) (o : Option Status) → o ≡ None → None ≡ cond b (option_map f o) (cond c (option_map g o) o)
none_twice true c f g o none = sym (ap (option_map f) none)
none_twice false c f g o none = none_once c g o none

-- a row changes so where it does at both numbers
module _ (change : Status → Status) (numbers : List ℕ) (a b c d : Status) where
  abbrev ChangesAt : ℕ → Type 0
  ChangesAt n = status_of (two_numbers c d) n ≡ cond (is_listed numbers n) (option_map change (status_of (two_numbers a b) n)) (status_of (two_numbers a b) n)

  row_changes : ChangesAt 0 → ChangesAt 1 → Changes change numbers (two_numbers a b) (two_numbers c d)
  row_changes first second n = elim (which n) [
    | inl same ↦ subst ChangesAt (sym same) first
    | inr (inl same) ↦ subst ChangesAt (sym same) second
    | inr (inr high) ↦ far c d n high ∙ none_once (is_listed numbers n) change (status_of (two_numbers a b) n) (far a b n high)
  ]

-- what becomes of a number where a grant ends
abbrev EndsAt : List ℕ → List ℕ → Pool → Pool → ℕ → Type 0
EndsAt granted freed old new n = status_of new n
    ≡ cond (is_listed granted n) (option_map (λ (s : Status). Taken) (status_of old n))
    (cond (is_listed freed n) (option_map released (status_of old n)) (status_of old n))

row_ends : (granted freed : List ℕ) (a b c d : Status) → EndsAt granted freed (two_numbers a b) (two_numbers c d) 0
    → EndsAt granted freed (two_numbers a b) (two_numbers c d) 1 → Ends granted freed (two_numbers a b) (two_numbers c d)
row_ends granted freed a b c d first second n = elim (which n) [
  | inl same ↦ subst (EndsAt granted freed (two_numbers a b) (two_numbers c d)) (sym same) first
  | inr (inl same) ↦ subst (EndsAt granted freed (two_numbers a b) (two_numbers c d)) (sym same) second
  | inr (inr high) ↦
      far c d n high ∙ none_twice (is_listed granted n) (is_listed freed n) (λ (s : Status). Taken) released (status_of (two_numbers a b) n) (far a b n high)
]

-- one number ascends, and none does
one_ascends : (n : ℕ) → IsStrictlyIncreasing (n ∷ [])
one_ascends n k low = absurd (omega (arith, low))

none_ascends : IsStrictlyIncreasing []
none_ascends k low = absurd (omega (arith, low))

one_free : (pool : Pool) (n : ℕ) → status_of pool n ≡ Some Free → All (λ (number : ℕ). status_of pool number ≡ Some Free) (n ∷ [])
one_free pool n free zero d low = free
one_free pool n free (suc k) d low = absurd (omega (arith, low))

none_free : (pool : Pool) → All (λ (number : ℕ). status_of pool number ≡ Some Free) []
none_free pool k d low = absurd (omega (arith, low))

pub first_blocks : Grants (two_numbers Free Free) 1 (0 ∷ []) (two_numbers Granted Free)
first_blocks = record {
  counted = refl;
  ascending = one_ascends 0;
  free = one_free (two_numbers Free Free) 0 refl;
  granted = row_changes (λ _. Granted) (0 ∷ []) Free Free Granted Free refl refl;
  left = refl;
}

pub first_inodes : Grants (two_numbers Free Free) 0 ([]) (two_numbers Free Free)
first_inodes = record {
  counted = refl;
  ascending = none_ascends;
  free = none_free (two_numbers Free Free);
  granted = row_changes (λ _. Granted) ([]) Free Free Free Free refl refl;
  left = refl;
}

pub second_blocks : Grants (two_numbers Granted Free) 0 ([]) (two_numbers Granted Free)
second_blocks = record {
  counted = refl;
  ascending = none_ascends;
  free = none_free (two_numbers Granted Free);
  granted = row_changes (λ _. Granted) ([]) Granted Free Granted Free refl refl;
  left = refl;
}

pub second_inodes : Grants (two_numbers Free Free) 1 (0 ∷ []) (two_numbers Granted Free)
second_inodes = record {
  counted = refl;
  ascending = one_ascends 0;
  free = one_free (two_numbers Free Free) 0 refl;
  granted = row_changes (λ _. Granted) (0 ∷ []) Free Free Granted Free refl refl;
  left = refl;
}

pub third_blocks : Grants (two_numbers Taken Free) 1 (1 ∷ []) (two_numbers Taken Granted)
third_blocks = record {
  counted = refl;
  ascending = one_ascends 1;
  free = one_free (two_numbers Taken Free) 1 refl;
  granted = row_changes (λ _. Granted) (1 ∷ []) Taken Free Taken Granted refl refl;
  left = refl;
}

pub third_inodes : Grants (two_numbers Taken Free) 0 ([]) (two_numbers Taken Free)
third_inodes = record {
  counted = refl;
  ascending = none_ascends;
  free = none_free (two_numbers Taken Free);
  granted = row_changes (λ _. Granted) ([]) Taken Free Taken Free refl refl;
  left = refl;
}

pub fourth_blocks : Grants (two_numbers Free Taken) 1 (0 ∷ []) (two_numbers Granted Taken)
fourth_blocks = record {
  counted = refl;
  ascending = one_ascends 0;
  free = one_free (two_numbers Free Taken) 0 refl;
  granted = row_changes (λ _. Granted) (0 ∷ []) Free Taken Granted Taken refl refl;
  left = refl;
}

pub fourth_inodes : Grants (two_numbers Taken Free) 0 ([]) (two_numbers Taken Free)
fourth_inodes = record {
  counted = refl;
  ascending = none_ascends;
  free = none_free (two_numbers Taken Free);
  granted = row_changes (λ _. Granted) ([]) Taken Free Taken Free refl refl;
  left = refl;
}

pub second_ends_blocks : Ends ([]) ([]) (two_numbers Granted Free) (two_numbers Granted Free)
second_ends_blocks = row_ends ([]) ([]) Granted Free Granted Free refl refl

pub second_ends_inodes : Ends (0 ∷ []) ([]) (two_numbers Granted Free) (two_numbers Taken Free)
second_ends_inodes = row_ends (0 ∷ []) ([]) Granted Free Taken Free refl refl

pub first_ends_blocks : Ends (0 ∷ []) ([]) (two_numbers Granted Free) (two_numbers Taken Free)
first_ends_blocks = row_ends (0 ∷ []) ([]) Granted Free Taken Free refl refl

pub first_ends_inodes : Ends ([]) ([]) (two_numbers Taken Free) (two_numbers Taken Free)
first_ends_inodes = row_ends ([]) ([]) Taken Free Taken Free refl refl

pub third_ends_blocks : Ends (1 ∷ []) (0 ∷ []) (two_numbers Taken Granted) (two_numbers Free Taken)
third_ends_blocks = row_ends (1 ∷ []) (0 ∷ []) Taken Granted Free Taken refl refl

pub third_ends_inodes : Ends ([]) ([]) (two_numbers Taken Free) (two_numbers Taken Free)
third_ends_inodes = row_ends ([]) ([]) Taken Free Taken Free refl refl

pub none_granted_yet : NoneGranted (two_numbers Free Free)
none_granted_yet n is = elim (which n) [
  | inl same ↦ (let never : ◌≡◌ {A = Option Status} (Some Free) (Some Granted) = sym (ap (status_of (two_numbers Free Free)) same) ∙ is in cc)
  | inr (inl same) ↦ (let never : ◌≡◌ {A = Option Status} (Some Free) (Some Granted) = sym (ap (status_of (two_numbers Free Free)) same) ∙ is in cc)
  | inr (inr high) ↦ none_some (sym (far Free Free n high) ∙ is)
]
