-- Elements of lists, and of the first of them.
use Rattle.std.proofs.Common.{◌≡◌, ◌↔◌, ℕ, Bool, true, false, cond, ◌||◌, nat_eq, filter, subst, zero, suc, ◌+◌, ◌<◌, ◌≤◌, List, [], ◌∷◌, length, take, map, get_or, ◌⊎◌, inl, inr, refl, sym, ap, ◌∙◌, arith}
use Rattle.std.proofs.lemmas.List.{take_more, take_all}
use Rattle.std.proofs.lemmas.Bool.{cond-true}
use borrow.Author.Tests.{eqb-true}
use Rattle.sfs_base.specs.Listed.{is_listed}
use Rattle.sfs_base.proofs.BasicNumbers.{same_number}
use Rattle.sfs_base.proofs.BasicTruth.{or_true, true_not_false}
use Rattle.cut_laws.specs.Rules.{IsOneOf}
use Rattle.cut_laws.proofs.Basics.{in_either, in_left, in_right}

-- what stands at a place is one of the list
pub one_at : {X : Type 0} (xs : List X) (i : ℕ) (d x : X) → i < length xs → x ≡ get_or xs i d → IsOneOf xs x
one_at [] i d x lt e = absurd (omega arith)
one_at (y ∷ xs) zero d x lt e = inl (sym e)
one_at (y ∷ xs) (suc i) d x lt e = inr (one_at xs i d x (omega arith) e)

-- one of the first of a list is one of it
pub one_of_take : {X : Type 0} (i : ℕ) (xs : List X) (x : X) → IsOneOf (take i xs) x → IsOneOf xs x
one_of_take zero xs x one = absurd one
one_of_take (suc i) [] x one = absurd one
one_of_take (suc i) (y ∷ xs) x one = elim one [ inl e ↦ inl e | inr rest ↦ inr (one_of_take i xs x rest) ]

-- one of the first and the next is one of the first or the next
pub one_more : {X : Type 0} (xs : List X) (i : ℕ) (d v x : X) → i < length xs → v ≡ get_or xs i d → IsOneOf (take (i + 1) xs) x
    → IsOneOf (take i xs) x ⊎ (v ≡ x)
one_more xs i d v x lt is one =
    elim (in_either (take i xs) (get_or xs i d ∷ []) x (rw (take_more xs i d lt) at one)) [
      | inl first ↦ inl first
      | inr next ↦ elim next [ inl e ↦ inr (is ∙ e) | inr none ↦ absurd none ]
    ]

-- one of the first is one of the first and the next
pub still_one : {X : Type 0} (xs : List X) (i : ℕ) (d x : X) → i < length xs → IsOneOf (take i xs) x → IsOneOf (take (i + 1) xs) x
still_one xs i d x lt one = rw (take_more xs i d lt) (in_left (take i xs) (get_or xs i d ∷ []) x one)

-- the next is one of the first and the next
pub next_one : {X : Type 0} (xs : List X) (i : ℕ) (d v : X) → i < length xs → v ≡ get_or xs i d → IsOneOf (take (i + 1) xs) v
next_one xs i d v lt is = rw (take_more xs i d lt) (in_right (take i xs) (get_or xs i d ∷ []) v (inl (sym is)))

-- what holds of the first and of the next holds of both
pub more_hold : {X : Type 0} (P : X → Type 0) (xs : List X) (i : ℕ) (d v : X) → i < length xs → v ≡ get_or xs i d → ((x : X) → IsOneOf (take i xs) x → P x)
    → P v → (x : X) → IsOneOf (take (i + 1) xs) x → P x
more_hold P xs i d v lt is first next x one = elim (one_more xs i d v x lt is one) [ inl before ↦ first x before | inr e ↦ rw e at next ]

-- what holds of as many of the first as there are holds of all
pub all_hold : {X : Type 0} (P : X → Type 0) (xs : List X) (i : ℕ) → length xs ≤ i → ((x : X) → IsOneOf (take i xs) x → P x) → (x : X) → IsOneOf xs x → P x
all_hold P xs i le first x one = first x (rw (take_all i xs le) one)

-- an element behind a map comes from one before it
pub from_map : {X Y : Type 0} (f : X → Y) (xs : List X) (y : Y) → IsOneOf (map f xs) y → (x : X) × IsOneOf xs x × (f x ≡ y)
from_map f [] y one = absurd one
from_map f (x ∷ xs) y one = elim one [
  | inl e ↦ (x, inl refl, e)
  | inr rest ↦ let h = from_map f xs y rest in (h.0, inr h.1, h.2)
]

pub to_map : {X Y : Type 0} (f : X → Y) (xs : List X) (x : X) → IsOneOf xs x → IsOneOf (map f xs) (f x)
to_map f [] x one = absurd one
to_map f (y ∷ xs) x one = elim one [ inl e ↦ inl (ap f e) | inr rest ↦ inr (to_map f xs x rest) ]

-- one that passes a test is kept
pub to_filter : {X : Type 0} (test : X → Bool) (xs : List X) (x : X) → IsOneOf xs x → test x ≡ true → IsOneOf (filter test xs) x
to_filter test [] x one passes = absurd one
to_filter test (first ∷ xs) x one passes = elim one [
  | inl same ↦ subst (λ l. IsOneOf l x) (sym (cond-true (test first) (first ∷ filter test xs) (filter test xs) (ap test same ∙ passes))) (inl same)
  | inr later ↦
      let rest = to_filter test xs x later passes in
      elim (test first) as (λ b. IsOneOf (cond b (first ∷ filter test xs) (filter test xs)) x) [ true ↦ inr rest | false ↦ rest ]
]

-- a number is listed where it is one of a list
pub listed_one : (numbers : List ℕ) (number : ℕ) → (is_listed numbers number ≡ true) ↔ IsOneOf numbers number
listed_one [] number = (λ e. cc, λ one. absurd one)
listed_one (first ∷ rest) number =
    let behind = listed_one rest number in (
      λ listed. elim (nat_eq first number) as (λ b. nat_eq first number ≡ b → (b || is_listed rest number) ≡ true → IsOneOf (first ∷ rest) number) [
        | true ↦ λ same _. inl (eqb-true first number same)
        | false ↦ λ other later. inr (behind.0 later)
      ] refl listed,
      λ one. elim one [
        | inl same ↦ ap (λ b. b || is_listed rest number) (subst (λ n. nat_eq first n ≡ true) same (same_number first))
        | inr later ↦ ap (λ b. nat_eq first number || b) (behind.1 later) ∙ or_true (nat_eq first number)
      ],
    )

-- a test behind a weaker one
pub filter_again : {X : Type 0} (test weak : X → Bool) (xs : List X) → ((x : X) → IsOneOf xs x → test x ≡ true → weak x ≡ true)
    → filter test (filter weak xs) ≡ filter test xs
filter_again test weak [] all = refl
filter_again {X} test weak (x ∷ xs) all = by (weak x) refl (filter_again test weak xs (λ y one. all y (inr one)))
  where
    out : (b : Bool) → test x ≡ b → (test x ≡ true → false ≡ true) → filter test (filter weak xs) ≡ filter test xs
        → filter test (filter weak xs) ≡ cond b (x ∷ filter test xs) (filter test xs)
    out true e never rest = absurd (true_not_false (sym (never e)))
    out false e never rest = rest

    by : (b : Bool) → weak x ≡ b → filter test (filter weak xs) ≡ filter test xs
        → filter test (cond b (x ∷ filter weak xs) (filter weak xs)) ≡ cond (test x) (x ∷ filter test xs) (filter test xs)
    by true e rest = ap (λ (l : List X). cond (test x) (x ∷ l) l) rest
    by false e rest = out (test x) refl (λ t. sym e ∙ all x (inl refl) t) rest
