-- The slots of a directory: what stands under a name, and up to where there are rows.
use Rattle.std.specs.Prelude.{◌≡◌, ◌≢◌, ◌<◌, ◌≤◌, slice_get, slice_index_or, Some, ℕ, suc, ◌+◌, ◌*◌, ◌/◌, ◌==◌, Bool, ◌&&◌, false, is_none, List, [], ◌∷◌, ◌++◌, take, replicate, Option, None, count_by, bytes_eq, if◌then◌else◌}
use Rattle.std.specs.Option.{option_map_or}
use Rattle.sfs_image.specs.Slot.{Row}

-- whether a slot has a row with this name
abbrev pub has_name : List ℕ → Option Row → Bool
has_name name slot = option_map_or (λ row. bytes_eq name row.name) slot false

-- the first slot with a row of this name, or an empty one where there is none
abbrev pub looked_up : List ℕ → List (Option Row) → Option Row
looked_up name [] = None
looked_up name (slot ∷ slots) = if has_name name slot then slot else looked_up name slots

-- how many slots have a row with this name
abbrev pub name_count : List ℕ → List (Option Row) → ℕ
name_count name slots = count_by (has_name name) slots

-- how many slots there are up to the last one that has a row
abbrev pub rows_end : List (Option Row) → ℕ
rows_end [] = 0
rows_end (slot ∷ slots) = if is_none slot && rows_end slots == 0 then 0 else suc (rows_end slots)

-- how many slots a block has
abbrev pub BLOCK_SLOTS : ℕ
BLOCK_SLOTS = 15

-- how many blocks there are up to the last one that has a row
abbrev pub blocks_up_to_last : List (Option Row) → ℕ
blocks_up_to_last slots = (rows_end slots + 14) / BLOCK_SLOTS

-- so many slots: the first ones, and behind them empty ones
abbrev pub at_length : ℕ → List (Option Row) → List (Option Row)
at_length count slots = take count (slots ++ replicate count None)

-- the slots of the blocks up to the last one that has a row
abbrev pub in_blocks : List (Option Row) → List (Option Row)
in_blocks slots = at_length (BLOCK_SLOTS * blocks_up_to_last slots) slots

-- A directory's blocks end with the last one that has a row: no slot behind them has one, and one of the last block's slots has.
pub record EndsWithRow (slots : List (Option Row)) : Type 0 where
  pub rest : (place : ℕ) → BLOCK_SLOTS * blocks_up_to_last slots ≤ place → slice_index_or slots place None ≡ None
  pub last : blocks_up_to_last slots ≢ 0
      → (place : ℕ) × (row : Row) × (place < BLOCK_SLOTS * blocks_up_to_last slots) × (BLOCK_SLOTS * blocks_up_to_last slots ≤ place + BLOCK_SLOTS)
      × (slice_get slots place ≡ Some (Some row))
