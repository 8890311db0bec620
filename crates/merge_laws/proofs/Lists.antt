-- Lists taken apart: what stands at a place, and what was joined of parts.
use Rattle.std.specs.Prelude.{flat_map}
use Rattle.std.proofs.Common.{◌≡◌, ◌∷◌, ◌++◌, ◌⊎◌, ◌∙◌, List, [], inl, inr, refl, sym, ap}
use Rattle.cut_laws.specs.Rules.{IsOneOf}
use Rattle.cut_laws.proofs.Basics.{in_left, in_right, in_either}

-- One of the parts has it.
pub record IsInPart {X Y : Type 0} (part : X → List Y) (xs : List X) (y : Y) : Type 0 where
  pub x : X
  pub among : IsOneOf xs x
  pub has : IsOneOf (part x) y

pub in_part : {X Y : Type 0} (part : X → List Y) (xs : List X) (y : Y) → IsOneOf (flat_map part xs) y → IsInPart part xs y
in_part part [] y one = absurd one
in_part part (x ∷ xs) y one = elim (in_either (part x) (flat_map part xs) y one) [
  | inl here ↦ record { x = x; among = inl refl; has = here }
  | inr rest ↦ let was = in_part part xs y rest in record { x = was.x; among = inr was.among; has = was.has }
]

-- Something stands in a list between others.
pub record StandsAt {X : Type 0} (xs : List X) (x : X) : Type 0 where
  pub front : List X
  pub back : List X
  pub whole : xs ≡ front ++ x ∷ back

pub stands_at : {X : Type 0} (xs : List X) (x : X) → IsOneOf xs x → StandsAt xs x
stands_at [] x one = absurd one
stands_at {X} (y ∷ xs) x (inl same) = record { front = []; back = xs; whole = ap (λ (z : X). z ∷ xs) same }
stands_at {X} (y ∷ xs) x (inr one) =
    let was = stands_at xs x one in
    record { front = y ∷ was.front; back = was.back; whole = ap (λ (l : List X). y ∷ l) was.whole }

pub among_at : {X : Type 0} (front : List X) (x : X) (back : List X) → IsOneOf (front ++ x ∷ back) x
among_at front x back = in_right front (x ∷ back) x (inl refl)

-- what is among others beside one, and the other way round
pub with_one : {X : Type 0} (before : List X) (x : X) (behind : List X) (y : X) → IsOneOf (before ++ behind) y → IsOneOf (before ++ x ∷ behind) y
with_one before x behind y one = elim (in_either before behind y one) [
  | inl there ↦ in_left before (x ∷ behind) y there
  | inr there ↦ in_right before (x ∷ behind) y (inr there)
]

pub but_one : {X : Type 0} (before : List X) (x : X) (behind : List X) (y : X) → IsOneOf (before ++ x ∷ behind) y → (x ≡ y) ⊎ IsOneOf (before ++ behind) y
but_one before x behind y one = elim (in_either before (x ∷ behind) y one) [
  | inl there ↦ inr (in_left before behind y there)
  | inr there ↦ elim there [
    | inl same ↦ inl same
    | inr rest ↦ inr (in_right before behind y rest)
  ]
]

-- Something of two lists joined stands in the first of them, or in the second.
pub record CutInFirst {X : Type 0} (xs front : List X) (x : X) : Type 0 where
  pub others : List X
  pub whole : xs ≡ front ++ x ∷ others

pub record CutInSecond {X : Type 0} (xs ys front : List X) (x : X) : Type 0 where
  pub more : List X
  pub back : List X
  pub front_is : front ≡ xs ++ more
  pub whole : ys ≡ more ++ x ∷ back

pub heads_are : {X : Type 0} (x y : X) (xs ys : List X) → x ∷ xs ≡ y ∷ ys → (x ≡ y) × (xs ≡ ys)
heads_are x y xs ys e = (cc, cc)

pub joined_at : {X : Type 0} (xs ys front : List X) (x : X) (back : List X) → xs ++ ys ≡ front ++ x ∷ back
    → CutInFirst xs front x ⊎ CutInSecond xs ys front x
joined_at [] ys front x back e = inr (record { more = front; back = back; front_is = refl; whole = e })
joined_at (y ∷ xs) ys [] x back e =
    let same = heads_are y x (xs ++ ys) back e in inl (record { others = xs; whole = ap (λ z. z ∷ xs) same.0 })
joined_at (y ∷ xs) ys (z ∷ front) x back e =
    let same = heads_are y z (xs ++ ys) (front ++ x ∷ back) e in
    elim (joined_at xs ys front x back same.1) [
      | inl first ↦ inl (record { others = first.others; whole = ap (λ w. w ∷ xs) same.0 ∙ ap (λ l. z ∷ l) first.whole })
      | inr second ↦ inr (record {
        more = second.more;
        back = second.back;
        front_is = ap (λ l. z ∷ l) second.front_is ∙ ap (λ w. w ∷ (xs ++ second.more)) (sym same.0);
        whole = second.whole;
      })
    ]

-- nothing stands in an empty list
pub nothing_there : {X : Type 0} (before : List X) (x : X) (behind : List X) → ◌≡◌ {A = List X} [] (before ++ x ∷ behind) → ⊥
nothing_there [] x behind e = cc
nothing_there (first ∷ before) x behind e = cc
