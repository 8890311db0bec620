-- What mkfs makes of a disk.
use Rattle.std.specs.Prelude.{◌≡◌, ℕ, ◌*◌, ◌-◌, ◌<◌, List, ◌++◌}
use Rattle.sfs_dev.specs.Disk.{View, OnlyTold, images}
use Rattle.sfs_dev.specs.Steps.{IfTold}
use Rattle.sfs_image.specs.Bytes.{zeros}
use Rattle.sfs_image.specs.ImageOf.{IsShut, IsJustMade, empty_directory}
use Rattle.sfs_image.specs.Inode.{inode_bytes}
use Rattle.sfs_image.specs.Settled.{journal_slot, layout_of}
use Rattle.sfs_image.specs.Super.{Layout, record_blocks}
use Rattle.tree_laws.specs.Build.{root_alone}
use Rattle.image_laws.specs.Image.{IsReadAsTree}

-- The disk holds an image that is just made, where it tells what it holds, and nothing is pending.
pub record IsMadeOn (layout : Layout) (disk : View) : Type 0 where
  pub made : IfTold disk.content (IsJustMade layout)
  pub calm : OnlyTold disk.content (images disk)

-- An image has a layout and the root alone: nothing is wrong in it, and its tree has the shape of a root without rows.
pub record HasRootAlone (layout : Layout) (image : List ℕ) : Type 0 where
  pub layout_is : layout_of image ≡ layout
  pub read : (share : ℕ) → IsReadAsTree image share (root_alone layout.inodes share layout.cores)

-- An image that is just made has its layout and the root alone.
abbrev pub JustMadeHasRootAlone : Type 0
JustMadeHasRootAlone = (layout : Layout) (image : List ℕ) → IsJustMade layout image → HasRootAlone layout image

-- the first slots of an image are closed
abbrev pub ShutBelow : Layout → ℕ → List ℕ → Type 0
ShutBelow layout n image = (k : ℕ) → k < n → IsShut (journal_slot layout image k)

-- the record of an empty directory
unfoldable pub empty_record : List ℕ
empty_record = inode_bytes empty_directory

-- the inode table of an image that is just made: the root, and free inodes
unfoldable pub empty_table : Layout → List ℕ
empty_table layout = empty_record ++ zeros (4096 * record_blocks layout.inodes - 512)
