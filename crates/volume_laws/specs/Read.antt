-- Parts that were read of a disk, whether it tells its content or not.
use Rattle.std.specs.Prelude.{◌≡◌, ℕ, ◌<◌, List, None}
use Rattle.sfs_image.specs.Part.{Part}
use Rattle.sfs_image.specs.Super.{Layout}
use Rattle.disk_tree.specs.Judged.{fault_of_parts}
use Rattle.disk_tree.specs.Whole.{IsReadWhole}
use Rattle.volume_laws.specs.Begun.{StandInBlocks}

-- Parts without a fault that were read whole stand in blocks, since none of them holds a block that another one holds too.
abbrev pub ReadPartsStand : Type 0
ReadPartsStand = (layout : Layout) (parts : ℕ → Part) → 0 < layout.inodes → fault_of_parts layout parts ≡ None
    → ((i : ℕ) → i < layout.inodes → IsReadWhole (parts i)) → (store : ℕ → List ℕ) × StandInBlocks store layout parts
