-- The record of an inode, which has 512 bytes, and the pointers of a file.
use Rattle.std.specs.Prelude.{◌≡◌, ℕ, ◌-◌, ◌<◌, ◌≤◌, ◌/◌, ◌%◌, ◌^◌, ◌==◌, nat_lt, List, [], ◌∷◌, ◌++◌, length, slice_index, replicate, AllPairs, Option, None, if◌then◌else◌}
use Rattle.std.specs.Option.{option_or}
use Rattle.sfs_image.specs.Bytes.{u32_at, u64_at, u32s_at, u32_bytes, u64_bytes, u32s_bytes, nonzero_in, fault_at}

-- what a record says: the kind (0 free, 1 file, 2 directory), the link count, the size in bytes, the pointers to data
-- blocks, and those to indirect blocks. A pointer is a block's number, or 0 for a hole.
pub record Inode : Type 0 where
  pub kind : ℕ
  pub links : ℕ
  pub size : ℕ
  pub direct : List ℕ
  pub indirect : List ℕ

-- the inode in a record
abbrev pub inode_of : List ℕ → Inode
inode_of raw =
    record { kind = slice_index raw 0; links = u32_at 4 raw; size = u64_at 8 raw; direct = u32s_at 16 108 raw; indirect = u32s_at 448 16 raw }

-- the first wrong place of a record: the kind, the three zeros, and in a free record any byte that is not zero
abbrev pub inode_fault : List ℕ → Option ℕ
inode_fault raw =
    option_or (fault_at (nat_lt 2 (slice_index raw 0)) 0)
    (option_or (nonzero_in 1 3 raw)
    (if slice_index raw 0 == 0 then nonzero_in 4 508 raw else None))

-- the bytes of a record
abbrev pub inode_bytes : Inode → List ℕ
inode_bytes inode =
    (inode.kind ∷ 0 ∷ 0 ∷ 0 ∷ []) ++ u32_bytes inode.links ++ u64_bytes inode.size ++ u32s_bytes inode.direct ++ u32s_bytes inode.indirect

-- a free inode has nothing
pub record IsFree (inode : Inode) : Type 0 where
  pub links : inode.links ≡ 0
  pub size : inode.size ≡ 0
  pub direct : inode.direct ≡ replicate 108 0
  pub indirect : inode.indirect ≡ replicate 16 0

-- each of these numbers is a u32
abbrev pub AreU32s : List ℕ → Type 0
AreU32s xs = (k : ℕ) → slice_index xs k < 2 ^ 32

-- this can stand in a record
pub record IsInode (inode : Inode) : Type 0 where
  pub kind : inode.kind ≤ 2
  pub links : inode.links < 2 ^ 32
  pub size : inode.size < 2 ^ 64
  pub direct_count : length inode.direct ≡ 108
  pub direct : AreU32s inode.direct
  pub indirect_count : length inode.indirect ≡ 16
  pub indirect : AreU32s inode.indirect
  pub free : inode.kind ≡ 0 → IsFree inode

-- an indirect block: the place of its pointer in the record, from 0 to 15, and its 1,024 pointers
pub record Table : Type 0 where
  pub place : ℕ
  pub pointers : List ℕ

-- indirect blocks ascend by the places of their pointers
abbrev pub IsAscending : List Table → Type 0
IsAscending tables = AllPairs (λ first later. first.place < later.place) tables

-- of block n of a file, from 108 on: the place of the indirect block that has its pointer
abbrev pub table_of : ℕ → ℕ
table_of n = (n - 108) / 1024

-- the entry in that indirect block
abbrev pub entry_of : ℕ → ℕ
entry_of n = (n - 108) % 1024

-- the pointers of an indirect block, which has 4,096 bytes
abbrev pub pointers_of : List ℕ → List ℕ
pointers_of block = u32s_at 0 1024 block

-- the bytes of an indirect block
abbrev pub pointers_bytes : List ℕ → List ℕ
pointers_bytes pointers = u32s_bytes pointers

-- these can be the pointers of an indirect block
pub record ArePointers (pointers : List ℕ) : Type 0 where
  pub count : length pointers ≡ 1024
  pub numbers : AreU32s pointers
