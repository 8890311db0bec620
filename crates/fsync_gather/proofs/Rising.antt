-- Numbers that rise strictly, and what a list gives of its items.
use Rattle.std.proofs.Common.{◌≡◌, ℕ, zero, suc, ◌+◌, ◌<◌, List, [], ◌∷◌, ◌++◌, map, get_or, Option, Some, None, inl, inr, refl, sym, ap, ◌∙◌, subst, arith}
use Rattle.std.specs.Prelude.{filter_map}
use Rattle.std.specs.List.{cons_option}
use Rattle.std.specs.List.Sorted.{IsStrictlyIncreasing}
use Rattle.cut_laws.specs.Rules.{IsOneOf}
use Rattle.cut_laws.proofs.Listed.{from_map}

further : (k : ℕ) → suc k + 1 ≡ suc (k + 1)
further k = omega arith

-- a number in front of greater ones
pub cons_rises : (x : ℕ) (xs : List ℕ) → ((y : ℕ) → IsOneOf xs y → x < y) → IsStrictlyIncreasing xs → IsStrictlyIncreasing (x ∷ xs)
cons_rises x [] above up k within = absurd (omega (arith, within))
cons_rises x (y ∷ ys) above up zero within = above y (inl refl)
cons_rises x (y ∷ ys) above up (suc k) within =
    subst (λ m. get_or (y ∷ ys) k 0 < get_or (x ∷ y ∷ ys) m 0) (sym (further k)) (up k (omega (arith, within)))

pub tail_rises : (x : ℕ) (xs : List ℕ) → IsStrictlyIncreasing (x ∷ xs) → IsStrictlyIncreasing xs
tail_rises x xs up k within = subst (λ m. get_or xs k 0 < get_or (x ∷ xs) m 0) (further k) (up (suc k) (omega (arith, within)))

-- those behind the first are greater
pub head_below : (x : ℕ) (xs : List ℕ) → IsStrictlyIncreasing (x ∷ xs) → (y : ℕ) → IsOneOf xs y → x < y
head_below x [] up y one = absurd one
head_below x (z ∷ xs) up y one =
    let less = up 0 (omega arith) in
    elim one [
      | inl same ↦ subst (λ m. x < m) same less
      | inr later ↦ let more = head_below z xs (tail_rises x (z ∷ xs) up) y later in omega (arith, less, more)
    ]

-- one more behind lesser ones
pub push_rises : (xs : List ℕ) (x : ℕ) → IsStrictlyIncreasing xs → ((y : ℕ) → IsOneOf xs y → y < x) → IsStrictlyIncreasing (xs ++ x ∷ [])
push_rises [] x up below = λ k within. absurd (omega (arith, within))
push_rises (y ∷ ys) x up below =
    cons_rises y (ys ++ x ∷ []) (λ z one. in_pushed ys z one (λ there. head_below y ys up z there))
    (push_rises ys x (tail_rises y ys up) (λ z one. below z (inr one)))
  where
    in_pushed : (l : List ℕ) (z : ℕ) → IsOneOf (l ++ x ∷ []) z → (IsOneOf l z → y < z) → y < z
    in_pushed [] z one rest = elim one [ inl same ↦ subst (λ m. y < m) same (below y (inl refl)) | inr none ↦ absurd none ]
    in_pushed (w ∷ l) z one rest = elim one [ inl same ↦ rest (inl same) | inr later ↦ in_pushed l z later (λ there. rest (inr there)) ]

-- one of what a function gives of a list
pub from_given : {X Y : Type 0} (f : X → Option Y) (xs : List X) (y : Y) → IsOneOf (filter_map f xs) y → (x : X) × IsOneOf xs x × (f x ≡ Some y)
from_given f [] y one = absurd one
from_given {X} {Y} f (x ∷ xs) y one = by (λ there. from_given f xs y there) (f x) refl one
  where
    Rest : Type 0
    Rest = IsOneOf (filter_map f xs) y → (z : X) × IsOneOf xs z × (f z ≡ Some y)

    Found : Type 0
    Found = (z : X) × IsOneOf (x ∷ xs) z × (f z ≡ Some y)

    behind : (z : X) × IsOneOf xs z × (f z ≡ Some y) → Found
    behind found = (found.0, inr found.1, found.2)

    by : Rest → (o : Option Y) → f x ≡ o → IsOneOf (cons_option o (filter_map f xs)) y → Found
    by rest None is there = behind (rest there)
    by rest (Some z) is there = elim there [ inl same ↦ (x, inl refl, is ∙ ap Some same) | inr past ↦ behind (rest past) ]

pub to_given : {X Y : Type 0} (f : X → Option Y) (xs : List X) (x : X) (y : Y) → IsOneOf xs x → f x ≡ Some y → IsOneOf (filter_map f xs) y
to_given f [] x y one is = absurd one
to_given {X} {Y} f (first ∷ xs) x y one is = elim one [
  | inl same ↦ subst (λ (o : Option Y). IsOneOf (cons_option o (filter_map f xs)) y) (sym (ap f same ∙ is)) (inl refl)
  | inr later ↦ behind (f first) (to_given f xs x y later is)
]
  where
    behind : (o : Option Y) → IsOneOf (filter_map f xs) y → IsOneOf (cons_option o (filter_map f xs)) y
    behind None there = there
    behind (Some z) there = inr there

-- what is given of items with rising numbers, each with its item's number, has rising numbers
module _ {X Y : Type 0} (key : X → ℕ) (f : X → Option Y) (number : Y → ℕ) (own : (x : X) (y : Y) → f x ≡ Some y → number y ≡ key x) where
  given_above : (b : ℕ) (xs : List X) → ((n : ℕ) → IsOneOf (map key xs) n → b < n) → (n : ℕ) → IsOneOf (map number (filter_map f xs)) n → b < n
  given_above b xs above n one =
      let given = from_map number (filter_map f xs) n one in
      let item = from_given f xs given.0 given.1 in
      subst (λ m. b < m) (sym (own item.0 given.0 item.2) ∙ given.2) (above (key item.0) (mapped xs item.0 item.1))
    where
      mapped : (l : List X) (x : X) → IsOneOf l x → IsOneOf (map key l) (key x)
      mapped [] x there = absurd there
      mapped (y ∷ l) x there = elim there [ inl same ↦ inl (ap key same) | inr rest ↦ inr (mapped l x rest) ]

  pub given_rise : (xs : List X) → IsStrictlyIncreasing (map key xs) → IsStrictlyIncreasing (map number (filter_map f xs))
  given_rise [] up = λ k within. absurd (omega (arith, within))
  given_rise (x ∷ xs) up =
      by (f x) (own x) (given_above (key x) xs (head_below (key x) (map key xs) up)) (given_rise xs (tail_rises (key x) (map key xs) up))
    where
      by : (o : Option Y) → ((y : Y) → o ≡ Some y → number y ≡ key x) → ((n : ℕ) → IsOneOf (map number (filter_map f xs)) n → key x < n)
          → IsStrictlyIncreasing (map number (filter_map f xs)) → IsStrictlyIncreasing (map number (cons_option o (filter_map f xs)))
      by None is above rest = rest
      by (Some y) is above rest =
          cons_rises (number y) (map number (filter_map f xs)) (λ n there. subst (λ m. m < n) (sym (is y refl)) (above n there)) rest
