-- The rules across the inodes of an image, as facts.
use Rattle.std.specs.Prelude.{◌≡◌, ◌≢◌, ℕ, ◌<◌, ◌≤◌, List, Option, Some, None}
use Rattle.std.specs.List.{AllByRecursion}
use Rattle.std.specs.FinMap.{len}
use Rattle.sfs_base.specs.declared.numbers.Kind.TheVariants.{Directory}
use Rattle.tree_laws.specs.Tree.{BUCKET_ROWS, TreeState, count_of, links_of, bucket_rows}
use Rattle.tree_laws.specs.Sound.{Above}
use Rattle.sfs_image.specs.Slot.{Row, kind_byte}
use Rattle.sfs_image.specs.Seen.{SeenInodes}
use Rattle.image_laws.specs.Slots.{name_count}
use Rattle.image_laws.specs.ImageTree.{NOTHING_MADE, image_rows, image_tree}
use Rattle.image_laws.specs.Stands.{HoldsApart}

-- an inode of an image is a directory
abbrev pub IsDirectoryInode : SeenInodes → ℕ → Type 0
IsDirectoryInode image i = (i < image.count) × ((image.seen i).kind ≡ kind_byte Directory)

-- A row in a slot may stand there: its inode is one of the image's and not the root, and of the row's kind.
pub record MayName (image : SeenInodes) (row : Row) : Type 0 where
  pub within : row.inode < image.count
  pub kind : (image.seen row.inode).kind ≡ kind_byte row.kind
  pub no_root : row.inode ≢ 0

-- a slot is empty, or its row may stand there
abbrev pub MayStand : SeenInodes → Option Row → Type 0
MayStand image None = Unit {0}
MayStand image (Some row) = MayName image row

-- the tree of an image, of which the rules speak
abbrev pub ruled_tree : SeenInodes → TreeState
ruled_tree image = image_tree image NOTHING_MADE

-- The inodes of an image keep the rules: the root is a directory, no block is held twice, and each directory has each name once, at
-- most 4,096 rows in a bucket and only rows that may stand there, is named by one row at most, and is reached from the root; and the
-- link counts are those of the tree.
pub record KeepsRules (image : SeenInodes) : Type 0 where
  pub root : IsDirectoryInode image 0
  pub apart : HoldsApart image
  pub once : (i : ℕ) → IsDirectoryInode image i → (name : List ℕ) → name_count name (image.seen i).slots ≤ 1
  pub full : (i number : ℕ) → IsDirectoryInode image i → number < 8 → len (bucket_rows i number (image_rows image)) ≤ BUCKET_ROWS
  pub children : (i : ℕ) → IsDirectoryInode image i → AllByRecursion (MayStand image) (image.seen i).slots
  pub named_once : (i : ℕ) → IsDirectoryInode image i → count_of (image_rows image) i ≤ 1
  pub links : (i : ℕ) → i < image.count → (image.seen i).kind ≢ 0 → (image.seen i).links ≡ links_of (ruled_tree image) i
  pub reached : (i : ℕ) → IsDirectoryInode image i → (above : List ℕ) × Above (ruled_tree image) i above
