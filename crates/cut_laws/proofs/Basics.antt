-- Basic facts on truth values, numbers, options and lists.
use Rattle.std.proofs.Common.{◌≡◌, ℕ, suc, ◌<◌, ◌≤◌, Bool, true, false, cond, List, [], ◌∷◌, ◌++◌, Option, Some, None, IsSome, is_some, ◌⊎◌, inl, inr, refl, ap, ◌∙◌, nat_lt, arith}
use borrow.Author.Tests.{ltb-true, ltb-false}
use Rattle.std.specs.Prelude.{filter}
use Rattle.cut_laws.specs.Rules.{IsOneOf}

pub no_true : {P : Type 0} → false ≡ true → P
no_true e = cc

-- a number is below another one, or not
pub below_or : (a b : ℕ) → (a < b) ⊎ (b ≤ a)
below_or a b = elim (nat_lt a b) as (λ t. nat_lt a b ≡ t → (a < b) ⊎ (b ≤ a)) [ true ↦ λ e. inl (ltb-true a b e) | false ↦ λ e. inr (ltb-false a b e) ] refl

pub none_below : (n : ℕ) → n ≤ 0 → n ≡ 0
none_below n le = omega arith

-- a number above another one, but at most the next, is the next
pub is_next : (n m : ℕ) → n ≤ suc m → m < n → n ≡ suc m
is_next n m le lt = omega arith

pub le_of : {n m : ℕ} → n ≡ m → n ≤ m
le_of e = omega arith

pub none_some : {X P : Type 0} {x : X} → None ≡ Some x → P
none_some e = cc

pub some_if : {X : Type 0} (o : Option X) → is_some o ≡ true → IsSome o
some_if (Some x) e = refl
some_if None e = cc

-- one of two lists is one of them joined, and so the other way round
pub in_left : {X : Type 0} (xs ys : List X) (x : X) → IsOneOf xs x → IsOneOf (xs ++ ys) x
in_left [] ys x one = absurd one
in_left (y ∷ xs) ys x one = elim one [ inl e ↦ inl e | inr rest ↦ inr (in_left xs ys x rest) ]

pub in_right : {X : Type 0} (xs ys : List X) (x : X) → IsOneOf ys x → IsOneOf (xs ++ ys) x
in_right [] ys x one = one
in_right (y ∷ xs) ys x one = inr (in_right xs ys x one)

pub in_either : {X : Type 0} (xs ys : List X) (x : X) → IsOneOf (xs ++ ys) x → IsOneOf xs x ⊎ IsOneOf ys x
in_either [] ys x one = inr one
in_either (y ∷ xs) ys x one = elim one [
  | inl e ↦ inl (inl e)
  | inr rest ↦ elim (in_either xs ys x rest) [ inl left ↦ inl (inr left) | inr right ↦ inr right ]
]

-- where all pass a test, or none does
pub filter_all : {X : Type 0} (w : X → Bool) (xs : List X) → ((x : X) → IsOneOf xs x → w x ≡ true) → filter w xs ≡ xs
filter_all w [] h = refl
filter_all w (x ∷ xs) h = ap (λ b. cond b (x ∷ filter w xs) (filter w xs)) (h x (inl refl)) ∙ ap (λ l. x ∷ l) (filter_all w xs (λ y one. h y (inr one)))

pub filter_none : {X : Type 0} (w : X → Bool) (xs : List X) → ((x : X) → IsOneOf xs x → w x ≡ false) → filter w xs ≡ []
filter_none w [] h = refl
filter_none w (x ∷ xs) h = ap (λ b. cond b (x ∷ filter w xs) (filter w xs)) (h x (inl refl)) ∙ filter_none w xs (λ y one. h y (inr one))

-- tests that give one answer for each of a list pass the same
pub filter_same : {X : Type 0} (w v : X → Bool) (xs : List X) → ((x : X) → IsOneOf xs x → w x ≡ v x) → filter w xs ≡ filter v xs
filter_same w v [] h = refl
filter_same w v (x ∷ xs) h =
    ap (λ b. cond b (x ∷ filter w xs) (filter w xs)) (h x (inl refl)) ∙ ap (λ l. cond (v x) (x ∷ l) l) (filter_same w v xs (λ y one. h y (inr one)))
