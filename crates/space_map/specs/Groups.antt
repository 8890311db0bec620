-- Groups of 64 numbers, some of them marked as having none that is free.
use Rattle.std.specs.Prelude.{◌≡◌, ℕ, ◌+◌, ◌/◌, ◌<◌, ◌^◌, Bool, true, false, List, length, slice_index_or, count_by}
use Rattle.space_map.specs.declared.status.Status.{Status}
use Rattle.space_map.specs.declared.status.Status.TheVariants.{Taken}
use Rattle.space_map.specs.Pool.{is_free}

-- no place below this one is free
abbrev pub NoneFreeBelow : List Status → ℕ → Type 0
NoneFreeBelow statuses below = (place : ℕ) → place < below → is_free (slice_index_or statuses place Taken) ≡ false

-- no place of a marked group is free
abbrev pub MarksHold : List Status → List Bool → Type 0
MarksHold statuses marks = (place : ℕ) → slice_index_or marks (place / 64) false ≡ true → is_free (slice_index_or statuses place Taken) ≡ false

-- What a row of numbers keeps: its numbers fit 32 bits, the free ones are counted, and each group has its mark.
pub record KeepsGroups (first : ℕ) (statuses : List Status) (marks : List Bool) (free : ℕ) : Type 0 where
  pub within : first + length statuses < 2 ^ 32
  pub counted : free ≡ count_by is_free statuses
  pub groups : length marks ≡ length statuses / 64 + 1
  pub marked : MarksHold statuses marks
