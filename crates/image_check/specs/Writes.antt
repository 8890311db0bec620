-- A value that is written at several places of a list.
use Rattle.std.specs.Prelude.{◌≡◌, ◌⊎◌, ℕ, ◌<◌, List, length, slice_index_or, Option, Some}

-- A value stands at a place, since one of the first n targets is that place.
pub record IsWritten {X : Type 0} (new : List X) (none value : X) (targets : ℕ → Option ℕ) (n x : ℕ) : Type 0 where
  pub k : ℕ
  pub low : k < n
  pub target : targets k ≡ Some x
  pub stands : slice_index_or new x none ≡ value

-- A value was written at each of the first n targets that is there, and what stands at any other place is what stood there.
pub record Writes {X : Type 0} (old new : List X) (none value : X) (targets : ℕ → Option ℕ) (n : ℕ) : Type 0 where
  pub size : length new ≡ length old
  pub has : (k x : ℕ) → k < n → targets k ≡ Some x → slice_index_or new x none ≡ value
  pub rest : (x : ℕ) → (slice_index_or new x none ≡ slice_index_or old x none) ⊎ IsWritten new none value targets n x
