-- Which of the first nodes are named, and of one more.
use Rattle.std.proofs.Common.{◌≡◌, ℕ, Bool, true, false, cond, refl, sym, ap, subst, ◌∙◌, nat_eq}
use Rattle.std.specs.Prelude.{◌&&◌, ◌||◌}
use Rattle.sfs_base.proofs.BasicTruth.{and_false}
use borrow.Author.Tests.{eqb-true}

module _ (key node : ℕ) (listed : Bool) (passes : ℕ → Bool) where
  late : (b : Bool) → ((listed || true) && b) ≡ b
  late b = by listed
    where
      by : (l : Bool) → ((l || true) && b) ≡ b
      by true = refl
      by false = refl

  alone : (b : Bool) → ((listed || false) && b) ≡ (listed && b)
  alone b = by listed
    where
      by : (l : Bool) → ((l || false) && b) ≡ (l && b)
      by true = refl
      by false = refl

  no_more : (listed && false) ≡ false
  no_more = and_false listed

  -- one that passes comes
  pub comes : (was : Bool) → passes key ≡ true → was ≡ (listed && passes node) → cond (nat_eq key node) true was ≡ ((listed || nat_eq key node) && passes node)
  comes was passed is = elim (nat_eq key node) as (λ b. nat_eq key node ≡ b → cond b true was ≡ ((listed || b) && passes node)) [
    | true ↦ λ same. sym (late (passes node) ∙ subst (λ n. passes n ≡ true) (eqb-true key node same) passed)
    | false ↦ λ _. is ∙ sym (alone (passes node))
  ] refl

  -- and one that fails does not
  pub stays_out : (was : Bool) → passes key ≡ false → was ≡ (listed && passes node) → was ≡ ((listed || nat_eq key node) && passes node)
  stays_out was failed is = elim (nat_eq key node) as (λ b. nat_eq key node ≡ b → was ≡ ((listed || b) && passes node)) [
    | true ↦ λ same.
        let fails : passes node ≡ false = subst (λ n. passes n ≡ false) (eqb-true key node same) failed in
        is ∙ ap (λ b. listed && b) fails ∙ no_more ∙ sym fails ∙ sym (late (passes node))
    | false ↦ λ _. is ∙ sym (alone (passes node))
  ] refl
