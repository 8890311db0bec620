-- A search through a list for one that is such.
use Rattle.std.proofs.Common.{◌≡◌, ℕ, ◌+◌, ◌<◌, ◌≤◌, ◌↔◌, true, false, List, length, take, get_or, inl, inr}
use Rattle.std.proofs.lemmas.List.{take_all}
use Rattle.flush_core.specs.Broken.{SomeIs}
use Rattle.cut_laws.proofs.Basics.{no_true}
use Rattle.cut_laws.proofs.Listed.{one_at, one_more}

-- one that is such was found at a place
pub found : {X : Type 0} (Is : X → Type 0) (xs : List X) (i : ℕ) (d x : X) → i < length xs → x ≡ get_or xs i d → Is x → SomeIs xs Is
found Is xs i d x lt is such = (x, one_at xs i d x lt is, such)

-- where none of the first is such, nor is the next, none of both is
pub none_more : {X : Type 0} (Is : X → Type 0) (xs : List X) (i : ℕ) (d v : X) → i < length xs → v ≡ get_or xs i d → (SomeIs (take i xs) Is → ⊥) → (Is v → ⊥)
    → SomeIs (take (i + 1) xs) Is → ⊥
none_more Is xs i d v lt is none not (x, one, such) = elim (one_more xs i d v x lt is one) [
  | inl before ↦ none (x, before, such)
  | inr e ↦ not (rw e such)
]

-- where none of as many as there are is such, none is
pub none_of_all : {X : Type 0} (Is : X → Type 0) (xs : List X) (i : ℕ) → length xs ≤ i → (SomeIs (take i xs) Is → ⊥) → SomeIs xs Is → ⊥
none_of_all Is xs i le none some = none (rw (take_all i xs le) some)

pub none_at_all : {X : Type 0} (Is : X → Type 0) (xs : List X) (i : ℕ) → length xs ≤ i → (SomeIs (take i xs) Is → ⊥) → (false ≡ true) ↔ SomeIs xs Is
none_at_all Is xs i le none = (λ e. no_true e, λ some. absurd (none_of_all Is xs i le none some))
