-- That what is kept in memory of a node is what its inode shows.
use Rattle.std.specs.Prelude.{◌≡◌, ℕ, ◌<◌, List, []}
use Rattle.sfs_base.specs.declared.numbers.Kind.TheVariants.{File}
use Rattle.sfs_image.specs.Part.{Part, IsGathered, seen_of}
use Rattle.sfs_image.specs.Seen.{Seen, PLACES}
use Rattle.sfs_image.specs.Slot.{kind_byte}
use Rattle.block_map.specs.Kept.{kept_of, pointer_kept}
use Rattle.disk_nodes.specs.OldKept.{Kept}
use Rattle.commit_laws.specs.SlotsKept.{AreSlotBlocks, slots_joined}

-- What is kept of a node is what an inode shows: kind, link count, size, its slots, block by block, of which a file has none, and the block
-- at each place.
pub record KeepsSeen (kept : Kept) (seen : Seen) : Type 0 where
  pub kind : kept.inode.kind ≡ seen.kind
  pub links : kept.inode.links ≡ seen.links
  pub size : kept.inode.size ≡ seen.size
  pub slots : slots_joined kept.slots ≡ seen.slots
  pub blocks : AreSlotBlocks kept.slots
  pub plain : seen.kind ≡ kind_byte File → kept.slots ≡ []
  pub pointers : (place : ℕ) → place < PLACES → pointer_kept kept.inode kept.tables place ≡ seen.blocks place

-- What is kept of a part that was gathered from a store of blocks is what the part's inode shows.
abbrev pub KeptPartsShow : Type 0
KeptPartsShow = (store : ℕ → List ℕ) (part : Part) → IsGathered store part → KeepsSeen (kept_of part) (seen_of part)
