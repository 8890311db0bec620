-- The owners of the blocks of an image, as a certificate tells them.
use Rattle.std.specs.Prelude.{◌≡◌, ◌≢◌, ℕ, ◌<◌, List, All, Some}
use Rattle.keyed_list.specs.Ascending.{AscendBy, item_with}
use Rattle.sfs_image.specs.Seen.{PLACES, SeenInodes}
use Rattle.image_laws.specs.Stands.{HoldsApart}
use Rattle.image_check.specs.Entries.{owner_block}
use Rattle.image_check.specs.declared.certificate.Owner.{Owner}

-- An entry tells an owner: its inode is in use, and a pointer at one of its places names the block.
pub record IsOwner (image : SeenInodes) (o : Owner) : Type 0 where
  pub within : o.inode < image.count
  pub used : (image.seen o.inode).kind ≢ 0
  pub place : ℕ
  pub low : place < PLACES
  pub names : (image.seen o.inode).blocks place ≡ o.block
  pub there : o.block ≢ 0

-- These are the owners of all blocks that inodes in use hold, ascending by block: no two pointers name one block, each pointer has
-- its entry, each entry tells an owner, and there is no other.
pub record AreOwners (image : SeenInodes) (owners : List Owner) : Type 0 where
  pub ascend : AscendBy owner_block owners
  pub apart : HoldsApart image
  pub each : (i place : ℕ) → i < image.count → (image.seen i).kind ≢ 0 → place < PLACES → (image.seen i).blocks place ≢ 0
      → item_with owner_block ((image.seen i).blocks place) owners ≡ Some (record { block = (image.seen i).blocks place; inode = i })
  pub right : All (IsOwner image) owners
