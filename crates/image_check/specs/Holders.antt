-- The places of the directories of an image, as a certificate tells them.
use Rattle.std.specs.Prelude.{◌≡◌, ◌≢◌, ℕ, suc, ◌==◌, List, All, IsSome, Option, Some, option_map, if◌then◌else◌}
use Rattle.keyed_list.specs.Ascending.{AscendBy, item_with}
use Rattle.tree_laws.specs.Tree.{count_of, holder_of}
use Rattle.sfs_image.specs.Seen.{SeenInodes}
use Rattle.image_laws.specs.ImageTree.{image_rows}
use Rattle.image_laws.specs.Keeps.{IsDirectoryInode, ruled_tree}
use Rattle.image_check.specs.Entries.{holder_inode}
use Rattle.image_check.specs.declared.certificate.Holder.{Holder}

-- how deep a directory lies: the root at 0, any other as its entry tells
abbrev pub depth_by : List Holder → ℕ → Option ℕ
depth_by holders directory = if directory == 0 then Some 0 else option_map (λ h. h.depth) (item_with holder_inode directory holders)

-- An entry tells the place of its inode: that is a directory and not the root, exactly one row of the image names it, this row stands
-- in the directory that is its holder, and it lies one deeper than its holder.
pub record IsPlace (image : SeenInodes) (holders : List Holder) (h : Holder) : Type 0 where
  pub directory : IsDirectoryInode image h.inode
  pub no_root : h.inode ≢ 0
  pub once : count_of (image_rows image) h.inode ≡ 1
  pub holder : holder_of (ruled_tree image) h.inode ≡ Some h.holder
  pub depth : option_map suc (depth_by holders h.holder) ≡ Some h.depth

-- These are the places of all directories but the root, ascending by inode: each has one entry, each entry tells its place, and there
-- is no other.
pub record AreHolders (image : SeenInodes) (holders : List Holder) : Type 0 where
  pub ascend : AscendBy holder_inode holders
  pub each : (i : ℕ) → IsDirectoryInode image i → i ≢ 0 → IsSome (item_with holder_inode i holders)
  pub right : All (IsPlace image holders) holders
