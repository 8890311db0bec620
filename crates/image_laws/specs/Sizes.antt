-- How large directories get.
use Rattle.std.specs.Prelude.{ℕ, ◌*◌, ◌≤◌, length}
use Rattle.sfs_image.specs.Rules.{DIRECTORY_BLOCKS}
use Rattle.sfs_image.specs.Seen.{SeenInodes}
use Rattle.image_laws.specs.Slots.{BLOCK_SLOTS}
use Rattle.image_laws.specs.Keeps.{IsDirectoryInode}

-- no directory of an image has more blocks than a directory may have
abbrev pub DirectoriesFit : SeenInodes → Type 0
DirectoriesFit image = (i : ℕ) → IsDirectoryInode image i → length (image.seen i).slots ≤ BLOCK_SLOTS * DIRECTORY_BLOCKS
