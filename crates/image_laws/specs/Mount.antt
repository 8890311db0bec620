-- What a mount reads: the numbering of an image's own tree, and what its inodes show by their kinds.
use Rattle.std.specs.Prelude.{◌≡◌, ◌≢◌, ◌⊎◌, ℕ, ◌<◌, ◌&&◌, nat_lt, [], Some, None, if◌then◌else◌}
use Rattle.sfs_base.specs.declared.numbers.Kind.TheVariants.{File, Directory}
use Rattle.tree_laws.specs.Tree.{count_of}
use Rattle.tree_laws.specs.Sound.{IsSound}
use Rattle.sfs_image.specs.Slot.{kind_byte}
use Rattle.sfs_image.specs.Seen.{SeenInodes}
use Rattle.image_laws.specs.ImageTree.{Making, is_used, image_rows, image_tree, tree_with_orphans}
use Rattle.image_laws.specs.Renamed.{Numbering}
use Rattle.image_laws.specs.Stands.{own_size, IsUnused, IsStorable, StandsForTree}

-- the numbering of an image's own tree: each inode in use is its own node
abbrev pub own_numbers : SeenInodes → Numbering
own_numbers image i = if nat_lt i image.count && is_used image i then Some i else None

-- Each inode shows what its kind has: one in use is a file or a directory and of the size of what it has, a file has no slots, a
-- directory has no bytes, and a free one holds no block.
pub record ShowsByKind (image : SeenInodes) : Type 0 where
  pub kinds : (i : ℕ) → i < image.count → (image.seen i).kind ≢ 0 → ((image.seen i).kind ≡ kind_byte File) ⊎ ((image.seen i).kind ≡ kind_byte Directory)
  pub sizes : (i : ℕ) → i < image.count → (image.seen i).kind ≢ 0 → (image.seen i).size ≡ own_size (image.seen i)
  pub files : (i : ℕ) → i < image.count → (image.seen i).kind ≡ kind_byte File → (image.seen i).slots ≡ []
  pub directories : (i : ℕ) → i < image.count → (image.seen i).kind ≡ kind_byte Directory → (image.seen i).bytes ≡ []
  pub unused : (i : ℕ) → i < image.count → (image.seen i).kind ≡ 0 → IsUnused (image.seen i)

-- a row names each file
abbrev pub HasNoOrphans : SeenInodes → Type 0
HasNoOrphans image = (i : ℕ) → i < image.count → (image.seen i).kind ≡ kind_byte File → count_of (image_rows image) i ≢ 0

-- What stands after a mount: the image's tree with its orphans is sound and the image stands for it, each inode under its own number;
-- and where there are no orphans, that is the tree that the image shows.
pub record StandsByItself (image : SeenInodes) (making : Making) : Type 0 where
  pub sound : IsSound (tree_with_orphans image making)
  pub storable : IsStorable (own_numbers image) (tree_with_orphans image making)
  pub stands : StandsForTree (own_numbers image) (tree_with_orphans image making) image
  pub shown : HasNoOrphans image → tree_with_orphans image making ≡ image_tree image making
