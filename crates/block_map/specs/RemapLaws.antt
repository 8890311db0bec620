-- The laws of rewriting, each of which a function of the module laws proves.
use Rattle.std.specs.Prelude.{◌≡◌, ◌≢◌, ◌↔◌, ℕ, ◌<◌, List, length, slice_index, Contains}
use Rattle.sfs_image.specs.Inode.{Inode, Table}
use Rattle.sfs_image.specs.Seen.{PLACES}
use Rattle.image_laws.specs.Need.{Rewrite, takes_place, rank}
use Rattle.block_map.specs.declared.changed.ChangedBlock.{ChangedBlock}
use Rattle.block_map.specs.Kept.{pointer_kept}
use Rattle.block_map.specs.Remap.{rewrite_of, pointer_remapped, inode_remapped, tables_remapped, AreFreed}

-- The pointers at all places afterwards are those of the record and of the indirect blocks.
abbrev pub RemappedPointersStand : Type 0
RemappedPointersStand = (inode : Inode) (tables : List Table) (changed : List ChangedBlock) (fresh : List ℕ) (place : ℕ) → place < PLACES
    → pointer_kept (inode_remapped (rewrite_of inode tables changed) fresh inode) (tables_remapped (rewrite_of inode tables changed) fresh tables) place
    ≡ pointer_remapped (rewrite_of inode tables changed) fresh place

-- a block is held, where these are the pointers at the places
pub record IsHeld (pointers : ℕ → ℕ) (block : ℕ) : Type 0 where
  pub some : block ≢ 0
  pub place : ℕ
  pub within : place < PLACES
  pub stands : pointers place ≡ block

-- Fresh blocks serve: there are as many as are needed, none is 0 or held, and no block is held twice.
pub record FreshServe (rewrite : Rewrite) (fresh : List ℕ) : Type 0 where
  pub enough : length fresh ≡ rank (takes_place rewrite) PLACES
  pub some : (k : ℕ) → k < length fresh → slice_index fresh k ≢ 0
  pub unheld : (k place : ℕ) → k < length fresh → place < PLACES → slice_index fresh k ≢ rewrite.pointers place
  pub apart : (place other : ℕ) → place < PLACES → other < PLACES → rewrite.pointers place ≢ 0 → rewrite.pointers place ≡ rewrite.pointers other → place ≡ other

-- What is given up is exactly what was held and is held no more.
abbrev pub FreedBlocksAreLeft : Type 0
FreedBlocksAreLeft = (rewrite : Rewrite) (fresh freed : List ℕ) → FreshServe rewrite fresh → AreFreed rewrite freed
    → (block : ℕ) → Contains freed block ↔ (IsHeld rewrite.pointers block × (IsHeld (pointer_remapped rewrite fresh) block → ⊥))
