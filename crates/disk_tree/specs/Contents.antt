-- The bytes of all inodes, which were read one inode after another.
use Rattle.std.specs.Prelude.{◌≡◌, ℕ, ◌+◌, ◌*◌, ◌/◌, ◌<◌, List, [], length, slice_index_or, Option}
use Rattle.sfs_base.specs.Lists.{Roomy}
use Rattle.sfs_image.specs.Bytes.{part}
use Rattle.sfs_image.specs.Inode.{Inode, Table, inode_of}
use Rattle.sfs_image.specs.Part.{Part}
use Rattle.sfs_image.specs.Super.{Layout}
use Rattle.disk_tree.specs.Gathered.{tables_at, KeepTables}
use Rattle.disk_tree.specs.Inodes.{inode_at}
use Rattle.disk_tree.specs.Judged.{AreReadParts}
use Rattle.disk_tree.specs.Reading.{HasContent}

-- how many blocks so many bytes lie in
abbrev pub blocks_of_size : ℕ → ℕ
blocks_of_size size = (size + 4095) / 4096

-- the bytes of the inode of a number, in whole blocks, and none past the last inode
abbrev pub bytes_of_inode : List (Roomy ℕ) → ℕ → List ℕ
bytes_of_inode contents i = (slice_index_or contents i (record { items = []; spare = 0 })).items

-- The bytes of the first n inodes were read.
pub record AreReadContents (told : Option (List ℕ)) (inodes : List Inode) (tables : List (Roomy Table)) (n : ℕ) (contents : List (Roomy ℕ)) : Type 0 where
  pub count : length contents ≡ n
  pub each : (i : ℕ) → i < n → HasContent told (inode_at inodes i) (tables_at tables i) (blocks_of_size (inode_at inodes i).size) (bytes_of_inode contents i)

-- Parts are what reads gave: what is kept of their indirect blocks, and the blocks of their bytes.
pub record HoldContents (told : Option (List ℕ)) (layout : Layout) (records : List (List ℕ)) (tables : List (Roomy Table)) (contents : List (Roomy ℕ))
    (parts : ℕ → Part) : Type 0 where
  pub read : AreReadParts told layout records parts
  pub kept : KeepTables layout tables parts
  pub blocks : (i n : ℕ) → i < layout.inodes → n < blocks_of_size (inode_of (slice_index_or records i [])).size
      → slice_index_or (parts i).blocks n [] ≡ part (4096 * n) 4096 (bytes_of_inode contents i)
  pub size : (i : ℕ) → i < layout.inodes → length (bytes_of_inode contents i) ≡ 4096 * blocks_of_size (inode_of (slice_index_or records i [])).size
