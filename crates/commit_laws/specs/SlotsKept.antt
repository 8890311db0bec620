-- That the slots of a directory after a net are those of a commit.
use Rattle.std.specs.Prelude.{◌≡◌, ℕ, List, length, map, take, Option, Contains}
use Rattle.std.specs.List.{flat_map}
use Rattle.tree_laws.specs.Tree.{TreeState}
use Rattle.sfs_image.specs.Slot.{Row}
use Rattle.absorb.specs.declared.nets.NetRow.{NetRow}
use Rattle.image_laws.specs.Commit.{slots_after}
use Rattle.image_laws.specs.Renamed.{Numbering}
use Rattle.image_laws.specs.Slots.{BLOCK_SLOTS, in_blocks}
use Rattle.disk_change.specs.Directory.{slot_blocks_after}
use Rattle.disk_change.specs.Numbered.{block_numbered}
use Rattle.disk_change.specs.Seat.{blocks_to_last_row}
use Rattle.commit_laws.specs.KnownKinds.{KnowsChildren, NumbersChildren}

-- each block has the slots of one
abbrev pub AreSlotBlocks : List (List (Option Row)) → Type 0
AreSlotBlocks blocks = (block : List (Option Row)) → Contains blocks block → length block ≡ BLOCK_SLOTS

-- the slots of a directory's blocks, one block after the other
abbrev pub slots_joined : List (List (Option Row)) → List (Option Row)
slots_joined blocks = flat_map (λ block. block) blocks

-- the blocks of a directory after a net up to the last one with a row, with the numbers of its children
abbrev pub blocks_kept : (ℕ → Option ℕ) → List ℕ → List NetRow → List (List (Option Row)) → List (List (Option Row))
blocks_kept numbers directories net blocks =
    let after = slot_blocks_after directories net blocks in
    map (block_numbered numbers net) (take (blocks_to_last_row after) after)

-- The slots that a commit keeps of a directory are those of the new tree: the old ones after the net, in the blocks up to the last one
-- that has a row. The commit has numbers of the children that the net names, which are theirs.
abbrev pub NetSlotsAreThose : Type 0
NetSlotsAreThose = (numbers : ℕ → Option ℕ) (num : Numbering) (tree : TreeState) (directories : List ℕ) (net : List NetRow) (blocks : List (List (Option Row)))
    → AreSlotBlocks blocks → KnowsChildren directories tree net → NumbersChildren numbers num net
    → slots_joined (blocks_kept numbers directories net blocks) ≡ in_blocks (slots_after num tree net (slots_joined blocks))
