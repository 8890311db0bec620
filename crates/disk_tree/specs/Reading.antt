-- What reads gave of the blocks of an inode.
use Rattle.std.specs.Prelude.{◌≡◌, ℕ, ◌+◌, ◌*◌, ◌<◌, ◌≤◌, ◌==◌, List, [], ◌++◌, length, slice_index, slice_index_or, Option, None, Some, if◌then◌else◌}
use Rattle.std.specs.Option.{option_to_list}
use Rattle.sfs_dev.specs.Steps.{IfTold}
use Rattle.sfs_image.specs.Bytes.{part, zeros}
use Rattle.sfs_image.specs.Inode.{Inode, Table, pointers_of}
use Rattle.sfs_image.specs.Part.{read_block}
use Rattle.sfs_image.specs.Settled.{image_block}
use Rattle.block_map.specs.Kept.{tables_kept, block_kept}

-- What a read gave of the block that a pointer names: zeros for a pointer 0, and where the disk tells its content that block of it. It is a
-- whole block, unless that content ends before it.
pub record IsReadBlock (told : Option (List ℕ)) (pointer : ℕ) (block : List ℕ) : Type 0 where
  pub hole : pointer ≡ 0 → block ≡ zeros 4096
  pub gives : (content : List ℕ) → told ≡ Some content → block ≡ read_block (image_block content) pointer
  pub long : IfTold told (λ content. 4096 * (pointer + 1) ≤ length content) → length block ≡ 4096

-- These are the 16 indirect blocks of an inode as reads gave them.
pub record AreReadTables (told : Option (List ℕ)) (inode : Inode) (blocks : List (List ℕ)) : Type 0 where
  pub count : length blocks ≡ 16
  pub each : (k : ℕ) → k < 16 → IsReadBlock told (slice_index inode.indirect k) (slice_index_or blocks k [])

-- what is kept of the indirect block of a place, where the inode has a pointer to it
abbrev pub table_in : Inode → ℕ → List ℕ → Option Table
table_in inode place block = if slice_index inode.indirect place == 0 then None else Some (record { place = place; pointers = pointers_of block })

-- What is kept of the indirect blocks of an inode is what reads gave.
pub record HasTables (told : Option (List ℕ)) (inode : Inode) (tables : List Table) : Type 0 where
  pub blocks : List (List ℕ)
  pub read : AreReadTables told inode blocks
  pub kept : tables ≡ tables_kept inode blocks

-- What is kept of the indirect block of a place was put behind what is kept of those before, as a read gave it.
pub record IsNextTable (told : Option (List ℕ)) (inode : Inode) (place : ℕ) (old new : List Table) : Type 0 where
  pub block : List ℕ
  pub read : IsReadBlock told (slice_index inode.indirect place) block
  pub kept : new ≡ old ++ option_to_list (table_in inode place block)

-- These are the bytes of the first blocks of an inode as reads gave them.
pub record HasContent (told : Option (List ℕ)) (inode : Inode) (tables : List Table) (count : ℕ) (bytes : List ℕ) : Type 0 where
  pub size : length bytes ≡ 4096 * count
  pub each : (n : ℕ) → n < count → IsReadBlock told (block_kept inode tables n) (part (4096 * n) 4096 bytes)
