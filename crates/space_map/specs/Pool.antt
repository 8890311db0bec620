-- A row of numbers, each free, taken or granted.
use Rattle.std.specs.Prelude.{◌≡◌, ℕ, ◌+◌, ◌-◌, ◌==◌, nat_le, nat_lt, ◌&&◌, Bool, true, false, List, [], ◌∷◌, length, Option, Some, None, option_map, slice_get, count_by, All, if◌then◌else◌}
use Rattle.std.specs.List.Sorted.{IsStrictlyIncreasing}
use Rattle.sfs_base.specs.Listed.{is_listed}
use Rattle.space_map.specs.declared.status.Status.{Status}
use Rattle.space_map.specs.declared.status.Status.TheVariants.{Free, Taken, Granted}

-- the numbers from `first` on, one status each
pub record Pool : Type 0 where
  pub first : ℕ
  pub statuses : List Status

-- the status of a number, and none outside of the row
abbrev pub status_of : Pool → ℕ → Option Status
status_of pool number = if nat_le pool.first number then slice_get pool.statuses (number - pool.first) else None

-- a status that is Free
abbrev pub is_free : Status → Bool
is_free Free = true
is_free Taken = false
is_free Granted = false

-- how many numbers are free
abbrev pub free_count : Pool → ℕ
free_count pool = count_by is_free pool.statuses

-- the free ones among numbers from `first` on, ascending
abbrev pub free_from : ℕ → List Status → List ℕ
free_from first [] = []
free_from first (status ∷ statuses) = if is_free status then first ∷ free_from (first + 1) statuses else free_from (first + 1) statuses

-- the free numbers, ascending
abbrev pub free_numbers : Pool → List ℕ
free_numbers pool = free_from pool.first pool.statuses

-- Each listed number of the row has its status changed so, and each other number keeps it.
abbrev pub Changes : (Status → Status) → List ℕ → Pool → Pool → Type 0
Changes change numbers old new =
    (number : ℕ) → status_of new number ≡ (if is_listed numbers number then option_map change (status_of old number) else status_of old number)

-- Each listed number of the row has this status now, and each other number keeps its own.
abbrev pub BecomeAll : Status → List ℕ → Pool → Pool → Type 0
BecomeAll status = Changes (λ _. status)

-- what a status becomes where its number is released: what was taken is free
abbrev pub released : Status → Status
released Free = Free
released Taken = Free
released Granted = Granted

-- A grant has ended: its numbers are taken, and of the others those are free that are listed as freed and were taken.
abbrev pub Ends : List ℕ → List ℕ → Pool → Pool → Type 0
Ends granted freed old new =
    (number : ℕ) → status_of new number ≡
    (if is_listed granted number then option_map (λ _. Taken) (status_of old number) else
    if is_listed freed number then option_map released (status_of old number) else status_of old number)

-- So many free numbers are granted: they are listed in ascending order, and so many fewer are free. Nothing else changes.
pub record Grants (old : Pool) (count : ℕ) (numbers : List ℕ) (new : Pool) : Type 0 where
  pub counted : length numbers ≡ count
  pub ascending : IsStrictlyIncreasing numbers
  pub free : All (λ number. status_of old number ≡ Some Free) numbers
  pub granted : BecomeAll Granted numbers old new
  pub left : free_count new + count ≡ free_count old

-- the status in a range where some numbers are not free from the start
abbrev pub first_status : ℕ → ℕ → List ℕ → ℕ → Option Status
first_status first end taken number =
    if nat_le first number && nat_lt number end then Some (if is_listed taken number then Taken else Free) else None
