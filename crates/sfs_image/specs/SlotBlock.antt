-- The block of a directory: 15 slots, and 136 zeros behind them.
use Rattle.std.specs.Prelude.{◌≡◌, ℕ, ◌+◌, ◌*◌, List, ◌++◌, map, length, Option, option_map, All}
use Rattle.std.specs.Option.{option_or}
use Rattle.std.specs.List.{range_with_len, flat_map}
use Rattle.sfs_image.specs.Bytes.{part, zeros, nonzero_in, first_of}
use Rattle.sfs_image.specs.Slot.{Row, slot_of, slot_fault, slot_bytes, IsSlot}

-- the slot of a place in a block
abbrev pub slot_in : List ℕ → ℕ → Option Row
slot_in block k = slot_of (part (264 * k) 264 block)

-- the first wrong place of the slot of a place, counted from the begin of the block
abbrev pub fault_in : List ℕ → ℕ → Option ℕ
fault_in block k = option_map (λ at. 264 * k + at) (slot_fault (part (264 * k) 264 block))

-- the slots of a block
unfoldable pub slots_of : List ℕ → List (Option Row)
slots_of block = map (slot_in block) (range_with_len 0 15)

-- the first wrong place of a block: of its slots in turn, and then of the zeros behind them
unfoldable pub slots_fault : List ℕ → Option ℕ
slots_fault block = option_or (first_of 15 (fault_in block)) (nonzero_in 3960 136 block)

-- the bytes of a block
unfoldable pub slots_bytes : List (Option Row) → List ℕ
slots_bytes slots = flat_map slot_bytes slots ++ zeros 136

-- these can be the slots of a block
pub record AreSlots (slots : List (Option Row)) : Type 0 where
  pub count : length slots ≡ 15
  pub sound : All IsSlot slots
