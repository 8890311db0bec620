-- Which blocks of a directory have no empty slot.
use Rattle.std.specs.Prelude.{◌≡◌, ◌≢◌, ℕ, ◌/◌, ◌<◌, Bool, true, false, is_none, List, [], length, slice_index_or, Option}
use Rattle.std.specs.List.{list_any}
use Rattle.sfs_image.specs.Slot.{Row}

-- how many blocks a group has
abbrev pub GROUP_BLOCKS : ℕ
GROUP_BLOCKS = 32

-- whether the block of a place has an empty slot
abbrev pub has_empty : List (List (Option Row)) → ℕ → Bool
has_empty blocks n = list_any is_none (slice_index_or blocks n [])

-- Of the blocks of each group that is said to be full none has an empty slot.
abbrev pub AreFull : List Bool → List (List (Option Row)) → Type 0
AreFull full blocks = (n : ℕ) → n < length blocks → slice_index_or full (n / GROUP_BLOCKS) false ≡ true → has_empty blocks n ≡ false

-- So it is of all groups but one.
abbrev pub AreFullBut : ℕ → List Bool → List (List (Option Row)) → Type 0
AreFullBut group full blocks =
    (n : ℕ) → n < length blocks → n / GROUP_BLOCKS ≢ group → slice_index_or full (n / GROUP_BLOCKS) false ≡ true → has_empty blocks n ≡ false

-- So it is of the groups before one.
abbrev pub AreFullBefore : ℕ → List Bool → List (List (Option Row)) → Type 0
AreFullBefore group full blocks =
    (n : ℕ) → n < length blocks → n / GROUP_BLOCKS < group → slice_index_or full (n / GROUP_BLOCKS) false ≡ true → has_empty blocks n ≡ false
