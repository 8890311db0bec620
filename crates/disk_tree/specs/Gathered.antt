-- The indirect blocks of all inodes, which were read one inode after another.
use Rattle.std.specs.Prelude.{◌≡◌, ℕ, ◌<◌, ◌≤◌, true, false, List, [], length, slice_index_or, Option}
use Rattle.sfs_base.specs.Lists.{Roomy}
use Rattle.sfs_image.specs.Inode.{Inode, Table, inode_of}
use Rattle.sfs_image.specs.Part.{Part}
use Rattle.sfs_image.specs.Rules.{breaks_bytes_rule}
use Rattle.block_map.specs.Kept.{kept_tables}
use Rattle.sfs_image.specs.Super.{Layout}
use Rattle.disk_tree.specs.Inodes.{inode_at, SoundRecords}
use Rattle.disk_tree.specs.Judged.{AreReadParts}
use Rattle.disk_tree.specs.Reading.{HasTables}
use Rattle.disk_tree.specs.Pointers.{AreJudgedTables}

-- the indirect blocks of the inode of a number, and none past the last inode
abbrev pub tables_at : List (Roomy Table) → ℕ → List Table
tables_at tables i = (slice_index_or tables i (record { items = []; spare = 0 })).items

-- The indirect blocks of the first n inodes were read, and each of these keeps the fourth rule.
pub record AreTables (told : Option (List ℕ)) (layout : Layout) (inodes : List Inode) (n : ℕ) (tables : List (Roomy Table)) : Type 0 where
  pub count : length tables ≡ n
  pub each : (i : ℕ) → i < n → AreJudgedTables told layout (inode_at inodes i) false (tables_at tables i)

-- The first inode that breaks the fourth rule.
pub record BreaksFourth (told : Option (List ℕ)) (layout : Layout) (inodes : List Inode) (inode rule : ℕ) : Type 0 where
  pub fourth : rule ≡ 4
  pub within : inode < length inodes
  pub before : (j : ℕ) → j < inode → (tables : List Table) × AreJudgedTables told layout (inode_at inodes j) false tables
  pub here : (tables : List Table) × AreJudgedTables told layout (inode_at inodes inode) true tables

-- what is kept of the indirect blocks of parts
abbrev pub KeepTables : Layout → List (Roomy Table) → (ℕ → Part) → Type 0
KeepTables layout tables parts = (i : ℕ) → i < layout.inodes → kept_tables (parts i) ≡ tables_at tables i

-- the indirect blocks of each inode of these records were read, and this was kept of them
abbrev pub HaveTables : Option (List ℕ) → Layout → List (List ℕ) → List (Roomy Table) → Type 0
HaveTables told layout records tables = (i : ℕ) → i < layout.inodes → HasTables told (inode_of (slice_index_or records i [])) (tables_at tables i)

-- No inode breaks one of the first five rules, whatever its blocks hold.
pub record KeepPointerRules (told : Option (List ℕ)) (layout : Layout) (records : List (List ℕ)) (tables : List (Roomy Table)) : Type 0 where
  pub sound : SoundRecords layout.inodes records
  pub has : HaveTables told layout records tables
  pub keep : (parts : ℕ → Part) → AreReadParts told layout records parts → KeepTables layout tables parts → (rule i : ℕ) → 1 ≤ rule → rule ≤ 5
      → i < layout.inodes
      → breaks_bytes_rule rule layout parts i ≡ false
