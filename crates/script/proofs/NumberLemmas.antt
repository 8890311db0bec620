-- The number that digits spell.
use Rattle.std.proofs.Common.{◌≡◌, ℕ, zero, suc, ◌+◌, ◌-◌, ◌<◌, ◌≤◌, List, [], ◌∷◌, length, drop, get_or, fold, Option, Some, None, cond, nat_le, ◌^◌, refl, sym, ap, ◌∙◌, arith}
use borrow.Author.Tests.{lt-leb}
use Rattle.std.proofs.lemmas.Bool.{le-leb}
use Rattle.script.specs.Words.{with_digit, value_of}

-- more digits spell no smaller number
pub value_grows : (digits : List ℕ) (value : ℕ) → value ≤ fold with_digit value digits
value_grows [] value = omega arith
value_grows (digit ∷ digits) value = let later = value_grows digits (with_digit value digit) in omega arith

-- one more digit is read
pub one_digit : (digits : List ℕ) (i : ℕ) (value : ℕ) → i < length digits
    → fold with_digit value (drop i digits) ≡ fold with_digit (with_digit value (get_or digits i 0)) (drop (i + 1) digits)
one_digit [] i value lt = absurd (omega arith)
one_digit (d ∷ ds) zero value lt = refl
one_digit (d ∷ ds) (suc i) value lt = one_digit ds i value (omega arith) ∙ ap (λ n. fold with_digit (with_digit value (get_or ds i 0)) (drop n (d ∷ ds))) next
  where
    next : suc (i + 1) ≡ suc i + 1
    next = omega arith

-- a number past the largest is none
pub too_large : (digits rest : List ℕ) (value : ℕ) → value_of digits ≡ fold with_digit value rest → 2 ^ 64 ≤ value
    → ◌≡◌ {A = Option ℕ} None (cond (nat_le (value_of digits) (2 ^ 64 - 1)) (Some (value_of digits)) None)
too_large digits rest value is large =
    let grows = value_grows rest value in
    sym (ap (λ t. cond t (Some (value_of digits)) None) (lt-leb (value_of digits) (2 ^ 64 - 1) (omega arith)))

-- a number that fits is what was read
pub fits : (digits rest : List ℕ) (value : ℕ) → value_of digits ≡ fold with_digit value rest → length rest ≡ 0 → value < 2 ^ 64
    → ◌≡◌ {A = Option ℕ} (Some value) (cond (nat_le (value_of digits) (2 ^ 64 - 1)) (Some (value_of digits)) None)
fits digits [] value is none small =
    sym (ap (λ v. cond (nat_le v (2 ^ 64 - 1)) (Some v) None) is ∙ ap (λ t. cond t (Some value) None) (le-leb value (2 ^ 64 - 1) (omega arith)))
fits digits (d ∷ ds) value is none small = absurd (omega arith)
