-- The law of what is kept of a part, which a function of the module laws proves.
use Rattle.std.specs.Prelude.{◌≡◌, ℕ, ◌<◌, List}
use Rattle.sfs_image.specs.Part.{Part, IsGathered, pointer_at}
use Rattle.sfs_image.specs.Seen.{PLACES}
use Rattle.block_map.specs.Kept.{kept_of, pointer_kept}

-- What is kept of a part that was gathered from a store of blocks has at each place the part's pointer.
abbrev pub KeptPointersStand : Type 0
KeptPointersStand = (store : ℕ → List ℕ) (part : Part) → IsGathered store part
    → (place : ℕ) → place < PLACES → pointer_kept (kept_of part).inode (kept_of part).tables place ≡ pointer_at part place
