-- A fact of each worker up to a place.
use Rattle.std.proofs.Common.{◌≡◌, ◌<◌, ◌≤◌, ◌+◌, ℕ, true, false, List, length, get_or, ◌∙◌, subst, arith, ⊎_elim}
use borrow.Author.Tests.{ltb-true}
use Rattle.std.specs.Prelude.{nat_lt}
use Rattle.std.proofs.lemmas.Bool.{cases_Bool, ltb-false}
use Rattle.std.proofs.lemmas.List.{get_or_default}

-- a fact of all up to a place, and of the one at it
pub one_place_more : {X : Type 0} (P : X → Type 0) (xs : List X) (i : ℕ) (x : X) → i < length xs → x ≡ get_or xs i x
    → ((k : ℕ) (d : X) → k < i → P (get_or xs k d)) → P x → (k : ℕ) (d : X) → k < i + 1 → P (get_or xs k d)
one_place_more P xs i x within is before here k d up = ⊎_elim
    (λ (less : nat_lt k i ≡ true). before k d (ltb-true k i less))
    (λ (not : nat_lt k i ≡ false).
    let le : i ≤ k = ltb-false k i not in
    let same : i ≡ k = omega (arith, le, up) in
    subst (λ n. P (get_or xs n d)) same (subst P (is ∙ get_or_default xs i x d within) here))
    (cases_Bool (nat_lt k i))
