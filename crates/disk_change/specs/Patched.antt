-- The slots of a directory with what a commit changes of them, beside the blocks that it leaves as they are.
use Rattle.std.specs.Prelude.{◌≡◌, ℕ, ◌+◌, ◌^◌, ◌<◌, ◌≤◌, Bool, true, false, List, [], ◌∷◌, ◌++◌, length, is_some, Option, None, All, Contains, slice_set, slice_index_or}
use Rattle.std.specs.Ordering.{nat_cmp}
use Rattle.std.specs.List.Sorted.{IsSorted}
use Rattle.std.specs.List.{list_any}
use Rattle.sfs_image.specs.Slot.{Row}
use Rattle.absorb.specs.declared.nets.NetRow.{NetRow}
use Rattle.keyed_list.specs.Ascending.{item_with}
use Rattle.disk_change.specs.Directory.{is_in_net}
use Rattle.disk_change.specs.declared.placed.PlacedSlots.{PlacedSlots}

-- What a commit changes of a directory's blocks: those that get other slots, by their places, and those that come behind all that were there.
pub record SlotsPatch : Type 0 where
  pub changed : List PlacedSlots
  pub further : List (List (Option Row))

-- the place of a block that gets other slots
abbrev pub slots_place : PlacedSlots → ℕ
slots_place one = one.place

-- blocks once those with these places have got other slots
abbrev pub with_placed : List PlacedSlots → List (List (Option Row)) → List (List (Option Row))
with_placed [] blocks = blocks
with_placed (one ∷ rest) blocks = with_placed rest (slice_set blocks one.place one.slots)

-- blocks with a patch: some of them with other slots, and the further ones behind
abbrev pub patched : SlotsPatch → List (List (Option Row)) → List (List (Option Row))
patched patch blocks = with_placed patch.changed blocks ++ patch.further

-- A patch fits blocks: it changes only blocks that are there, and as it leaves them they can be counted.
pub record FitsBlocks (blocks : List (List (Option Row))) (patch : SlotsPatch) : Type 0 where
  pub within : All (λ one. one.place < length blocks) patch.changed
  pub counted : length blocks + length patch.further < 2 ^ 64

-- A patch that fits blocks leaves none of them as it is that has a name of a net, up to an end.
pub record IsPatchFor (net : List NetRow) (end : ℕ) (blocks : List (List (Option Row))) (patch : SlotsPatch) : Type 0 where
  pub fits : FitsBlocks blocks patch
  pub alone : (n : ℕ) → n < end → item_with slots_place n patch.changed ≡ None → list_any (is_in_net net) (slice_index_or blocks n []) ≡ false

-- A patch tells which blocks change: those that get other slots, and all that come behind.
pub record TellsTouched (blocks : List (List (Option Row))) (patch : SlotsPatch) (touched : List Bool) : Type 0 where
  pub count : length touched ≡ length blocks + length patch.further
  pub there : (n : ℕ) → n < length blocks → slice_index_or touched n false ≡ is_some (item_with slots_place n patch.changed)
  pub behind : (n : ℕ) → length blocks ≤ n → n < length touched → slice_index_or touched n false ≡ true

-- These are the places of all blocks that have a name of a net, and maybe others, ascending.
pub record AreNamed (net : List NetRow) (blocks : List (List (Option Row))) (places : List ℕ) : Type 0 where
  pub sorted : IsSorted nat_cmp places
  pub each : (n : ℕ) → n < length blocks → list_any (is_in_net net) (slice_index_or blocks n []) ≡ true → Contains places n

-- A block is passed: it is one of those that were there, before an end, and a patch leaves it as it is.
pub record IsPassed (blocks : List (List (Option Row))) (patch : SlotsPatch) (end n : ℕ) : Type 0 where
  pub there : n < length blocks
  pub before : n < end
  pub stays : item_with slots_place n patch.changed ≡ None
