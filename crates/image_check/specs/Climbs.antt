-- Where directories lie, by a table of holders.
use Rattle.std.specs.Prelude.{◌≡◌, ◌≢◌, ℕ, suc, ◌-◌, ◌^◌, ◌<◌, All, List, length, slice_index, Option, Some, None, IsSome, if◌then◌else◌}
use Rattle.sfs_base.specs.Lists.{Roomy}
use Rattle.sfs_image.specs.Inode.{Inode}
use Rattle.sfs_image.specs.Slot.{Row}
use Rattle.keyed_list.specs.Ascending.{AscendBy, item_with}
use Rattle.tree_laws.specs.Tree.{is_directory_kind}
use Rattle.disk_tree.specs.Inodes.{inode_at}
use Rattle.disk_tree.specs.Reached.{row_at}
use Rattle.disk_tree.specs.Rows.{rows_of_inode}
use Rattle.image_check.specs.Entries.{holder_inode}
use Rattle.image_check.specs.declared.certificate.Holder.{Holder}

-- the directory that the row of a place names, if it names one
abbrev pub named_directory : List Row → ℕ → Option ℕ
named_directory rows k = if is_directory_kind (row_at rows k).kind then Some (row_at rows k).inode else None

-- no other of the first n directories has a row that names this one
abbrev pub NamesAlone : List (Roomy Row) → ℕ → ℕ → ℕ → Type 0
NamesAlone rows n directory x =
    (other k : ℕ) → other < n → k < length (rows_of_inode rows other) → named_directory (rows_of_inode rows other) k ≡ Some x → other ≡ directory

-- at each directory that one of the first n alone names stands that one
abbrev pub HasHolders : List (Roomy Row) → ℕ → List ℕ → Type 0
HasHolders rows n above =
    (directory k x : ℕ) → directory < n → k < length (rows_of_inode rows directory) → named_directory (rows_of_inode rows directory) k ≡ Some x
    → NamesAlone rows n directory x
    → slice_index above x ≡ directory

-- the steps from holder to holder, from a directory up to the root
pub data Climbs (above : List ℕ) : ℕ → ℕ → Type 0 where
  at_root : Climbs above 0 0
  below : (directory depth : ℕ) → directory ≢ 0 → Climbs above (slice_index above directory) depth → Climbs above directory (suc depth)

-- A directory lies so deep, and that is a number of 32 bits.
pub record LiesAt (above : List ℕ) (directory : ℕ) : Type 0 where
  pub depth : ℕ
  pub small : depth < 2 ^ 32 - 1
  pub climbs : Climbs above directory depth

-- each directory lies at a depth
abbrev pub CanClimb : List Inode → List ℕ → Type 0
CanClimb inodes above = (i : ℕ) → i < length inodes → (inode_at inodes i).kind ≡ 2 → LiesAt above i

-- An entry is that of one of the first n inodes, a directory and not the root, with its holder and depth.
pub record IsClimbed (inodes : List Inode) (above : List ℕ) (n : ℕ) (h : Holder) : Type 0 where
  pub within : h.inode < n
  pub kind : (inode_at inodes h.inode).kind ≡ 2
  pub no_root : h.inode ≢ 0
  pub holder : h.holder ≡ slice_index above h.inode
  pub depth : Climbs above h.inode h.depth

-- These are the entries of the directories among the first n inodes, but for the root, ascending.
pub record AreClimbed (inodes : List Inode) (above : List ℕ) (n : ℕ) (holders : List Holder) : Type 0 where
  pub ascend : AscendBy holder_inode holders
  pub each : (i : ℕ) → i < n → (inode_at inodes i).kind ≡ 2 → i ≢ 0 → IsSome (item_with holder_inode i holders)
  pub right : All (IsClimbed inodes above n) holders
