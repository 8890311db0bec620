-- What a part's blocks have, from which its inode shows slots and bytes.
use Rattle.std.specs.Prelude.{◌≡◌, ℕ, ◌*◌, ◌<◌, ◌≤◌, List, [], length, slice_index, slice_index_or, Option}
use Rattle.sfs_base.specs.declared.numbers.Kind.TheVariants.{File, Directory}
use Rattle.sfs_image.specs.Slot.{Row, kind_byte}
use Rattle.sfs_image.specs.SlotBlock.{slots_of}
use Rattle.sfs_image.specs.Part.{Part, inode_in, file_byte}
use Rattle.image_laws.specs.Slots.{blocks_up_to_last}
use Rattle.image_laws.specs.Stands.{BLOCK_BYTES}
use Rattle.image_laws.specs.Need.{slots_in_block}

-- The part of a directory has these slots in its blocks: it is as large as the blocks up to the last one that has a row, and each of
-- them has its slots.
pub record HasSlotBlocks (part : Part) (slots : List (Option Row)) : Type 0 where
  pub kind : (inode_in part).kind ≡ kind_byte Directory
  pub size : (inode_in part).size ≡ BLOCK_BYTES * blocks_up_to_last slots
  pub enough : blocks_up_to_last slots ≤ length part.blocks
  pub each : (n : ℕ) → n < blocks_up_to_last slots → slots_of (slice_index_or part.blocks n []) ≡ slots_in_block n slots

-- The part of a file has these bytes in its blocks: it is as large as they are many, and has each at its place.
pub record HasByteBlocks (part : Part) (bytes : List ℕ) : Type 0 where
  pub kind : (inode_in part).kind ≡ kind_byte File
  pub size : (inode_in part).size ≡ length bytes
  pub each : (place : ℕ) → place < length bytes → file_byte part place ≡ slice_index bytes place
