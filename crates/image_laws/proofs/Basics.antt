-- A fact on tests that the other files cite.
use Rattle.std.proofs.Common.{◌≡◌, ℕ, true, false, nat_eq, refl}
use borrow.Author.Tests.{eqb-true, eq-eqb, eqb-false}

-- two tests of numbers that hold together are one
pub same_test : (a b c d : ℕ) → (a ≡ b → c ≡ d) → (c ≡ d → a ≡ b) → nat_eq c d ≡ nat_eq a b
same_test a b c d to from =
    elim (nat_eq a b) as (λ t. nat_eq a b ≡ t → nat_eq c d ≡ t) [
      | true ↦ λ t. eq-eqb c d (to (eqb-true _ _ t))
      | false ↦
          λ t. elim (nat_eq c d) as (λ u. nat_eq c d ≡ u → u ≡ false) [ true ↦ λ u. absurd (eqb-false _ _ t (from (eqb-true _ _ u))) | false ↦ λ _. refl ] refl
    ] refl
