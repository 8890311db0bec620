-- What a look has of a directory, of a node's birth and of its namings, is what was gathered.
use Rattle.std.proofs.Common.{◌≡◌, ℕ, suc, ◌<◌, Bool, true, false, cond, List, [], ◌∷◌, map, get_or, filter, Option, Some, None, inl, inr, refl, sym, ap, ◌∙◌, subst, arith, nat_eq}
use Rattle.std.specs.Prelude.{All, ◌||◌, flat_map, is_some, option_map}
use Rattle.std.specs.List.{find, list_any}
use Rattle.std.proofs.lemmas.Bool.{cond-true, cond-false}
use Rattle.std.proofs.lemmas.Bool.Decides.{nat_tests}
use Rattle.std.specs.List.Sorted.{IsStrictlyIncreasing}
use Rattle.sfs_base.proofs.BasicNumbers.{same_number, suc_joins}
use Rattle.cut_laws.specs.Rules.{IsOneOf}
use Rattle.cut_laws.proofs.Basics.{in_left, in_right, in_either}
use Rattle.dep_closure.proofs.Searches.{numbers_rise}

-- one of what several lists make together
pub from_flat : {X Y : Type 0} (f : X → List Y) (xs : List X) (y : Y) → IsOneOf (flat_map f xs) y → (x : X) × IsOneOf xs x × IsOneOf (f x) y
from_flat f [] y one = absurd one
from_flat f (x ∷ xs) y one = elim (in_either (f x) (flat_map f xs) y one) [
  | inl here ↦ (x, inl refl, here)
  | inr later ↦ let rest = from_flat f xs y later in (rest.0, inr rest.1, rest.2)
]

pub to_flat : {X Y : Type 0} (f : X → List Y) (xs : List X) (x : X) (y : Y) → IsOneOf xs x → IsOneOf (f x) y → IsOneOf (flat_map f xs) y
to_flat f [] x y one own = absurd one
to_flat f (first ∷ xs) x y one own = elim one [
  | inl same ↦ in_left (f first) (flat_map f xs) y (subst (λ z. IsOneOf (f z) y) (sym same) own)
  | inr later ↦ in_right (f first) (flat_map f xs) y (to_flat f xs x y later own)
]

-- what holds of all items holds of one
pub one_of_all : {X : Type 0} (P : X → Type 0) (xs : List X) (x : X) → All P xs → IsOneOf xs x → P x
one_of_all P [] x all one = absurd one
one_of_all P (first ∷ xs) x all one = elim one [
  | inl same ↦ subst P same (all 0 first (omega arith))
  | inr later ↦ one_of_all P xs x (λ k d within. all (suc k) d (omega arith)) later
]

-- there is something before a map where there is something behind it
pub some_mapped : {X Y : Type 0} (f : X → Y) (o : Option X) → is_some o ≡ is_some (option_map f o)
some_mapped f None = refl
some_mapped f (Some x) = refl

-- whether there is one is whether its number is listed
pub found_listed : {X : Type 0} (number : X → ℕ) (xs : List X) (n : ℕ)
    → is_some (find (λ x. nat_eq (number x) n) xs) ≡ list_any (λ listed. nat_eq listed n) (map number xs)
found_listed number [] n = refl
found_listed number (x ∷ xs) n =
    elim (nat_eq (number x) n) as (λ b. is_some (cond b (Some x) (find (λ one. nat_eq (number one) n) xs))
    ≡ (b || list_any (λ listed. nat_eq listed n) (map number xs))) [
      | true ↦ refl
      | false ↦ found_listed number xs n
    ]

-- in a list that ascends by a number only one item has a number
module _ {X : Type 0} (number : X → ℕ) where
  -- the numbers behind the first are greater
  greater_behind : (first : X) (xs : List X) → IsStrictlyIncreasing (map number (first ∷ xs)) → (x : X) → IsOneOf xs x → number first < number x
  greater_behind first xs up x one =
      one_of_all (λ other. number first < number other) xs x (λ k d within. numbers_rise number (first ∷ xs) up 0 (suc k) d (omega arith) (omega arith)) one

  pub only_one : (xs : List X) → IsStrictlyIncreasing (map number xs) → (n : ℕ) (x : X) → IsOneOf xs x → number x ≡ n
      → find (λ one. nat_eq (number one) n) xs ≡ Some x
  only_one [] up n x one own = absurd one
  only_one (first ∷ xs) up n x one own = elim one [
    | inl same ↦
        cond-true (nat_eq (number first) n) (Some first) (find (λ one. nat_eq (number one) n) xs)
        (subst (λ m. nat_eq (number first) m ≡ true) (ap number same ∙ own) (same_number (number first)))
        ∙ ap Some same
    | inr later ↦
        let less = greater_behind first xs up x later in
        cond-false (nat_eq (number first) n) (Some first) (find (λ one. nat_eq (number one) n) xs) (grind (arith, nat_tests))
        ∙ only_one xs
        (λ k within. subst (λ m. get_or (map number (first ∷ xs)) (suc k) 0 < get_or (map number (first ∷ xs)) m 0) (sym (suc_joins k 1))
        (up (suc k) (omega arith)))
        n x later own
  ]
