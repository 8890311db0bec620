-- The rules that speak of one record each.
use Rattle.std.specs.Prelude.{◌≡◌, ◌≢◌, ℕ, ◌*◌, ◌%◌, ◌<◌, ◌≤◌, ◌==◌, ◌&&◌, ◌||◌, not, nat_lt, Bool, false, List, [], length, slice_index_or, None}
use Rattle.sfs_image.specs.Inode.{Inode, inode_of, inode_fault}
use Rattle.sfs_image.specs.Part.{Part}
use Rattle.sfs_image.specs.Rules.{DIRECTORY_BLOCKS, breaks_bytes_rule}
use Rattle.sfs_image.specs.Seen.{FILE_BLOCKS}
use Rattle.sfs_image.specs.Super.{Layout}
use Rattle.disk_tree.specs.Whole.{WholeRecords}

-- the inode of a number, and past the last one that of a record without bytes
abbrev pub inode_at : List Inode → ℕ → Inode
inode_at inodes i = slice_index_or inodes i (inode_of [])

-- the inodes of a layout are those of these records
abbrev pub AreDecoded : Layout → List (List ℕ) → List Inode → Type 0
AreDecoded layout records inodes = (i : ℕ) → i < layout.inodes → inode_at inodes i ≡ inode_of (slice_index_or records i [])

-- whether the size in a record is one that its kind can't have
abbrev pub breaks_size_by : Inode → Bool
breaks_size_by inode =
    (inode.kind == 1 && nat_lt (4096 * FILE_BLOCKS) inode.size)
    || (inode.kind == 2 && (not (inode.size % 4096 == 0) || nat_lt (4096 * DIRECTORY_BLOCKS) inode.size))

-- the first records are not malformed
abbrev pub SoundRecords : ℕ → List (List ℕ) → Type 0
SoundRecords n records = (i : ℕ) → i < n → inode_fault (slice_index_or records i []) ≡ None

-- The first malformed record, which breaks the first rule.
pub record IsMalformed (records : List (List ℕ)) (inode rule : ℕ) : Type 0 where
  pub within : inode < length records
  pub first : rule ≡ 1
  pub wrong : inode_fault (slice_index_or records inode []) ≢ None
  pub before : SoundRecords inode records

-- the parts of these records have them
abbrev pub HaveRecords : Layout → List (List ℕ) → (ℕ → Part) → Type 0
HaveRecords layout records parts = (i : ℕ) → i < layout.inodes → (parts i).raw ≡ slice_index_or records i []

-- All records are whole, and no inode breaks one of the first three rules, whatever its pointers reach.
pub record KeepRecordRules (layout : Layout) (records : List (List ℕ)) : Type 0 where
  pub whole : WholeRecords layout.inodes records
  pub sound : SoundRecords layout.inodes records
  pub keep : (parts : ℕ → Part) → HaveRecords layout records parts → (rule i : ℕ) → 1 ≤ rule → rule ≤ 3 → i < layout.inodes
      → breaks_bytes_rule rule layout parts i ≡ false
