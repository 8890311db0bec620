-- The superblock, which is block 0, and where the parts of a disk lie.
use Rattle.std.specs.Prelude.{ℕ, ◌+◌, ◌*◌, ◌/◌, ◌≤◌, ◌==◌, ◌&&◌, nat_le, not, Bool, List, ◌++◌, codes, bytes_eq, Option}
use Rattle.std.specs.Option.{option_or}
use Rattle.sfs_image.specs.declared.limits.TheConstants.{MOST_SLOTS}
use Rattle.sfs_image.specs.Bytes.{part, zeros, u32_at, u32_bytes, nonzero_in, fault_at}

-- how a disk is divided: its blocks, its inodes, its cores, and the journal slots of each core
pub record Layout : Type 0 where
  pub blocks : ℕ
  pub inodes : ℕ
  pub cores : ℕ
  pub slots : ℕ

-- how many blocks hold the numbers of all inodes, 1,024 in a block
abbrev pub number_blocks : ℕ → ℕ
number_blocks inodes = (inodes + 1023) / 1024

-- how many blocks hold the records of all inodes, 8 in a block
abbrev pub record_blocks : ℕ → ℕ
record_blocks inodes = (inodes + 7) / 8

-- how many blocks a journal slot has: its head, the numbers, the records
abbrev pub slot_blocks : ℕ → ℕ
slot_blocks inodes = 1 + number_blocks inodes + record_blocks inodes

-- the block at which a slot of a core begins
abbrev pub slot_start : Layout → ℕ → ℕ → ℕ
slot_start layout core slot = 1 + (core * layout.slots + slot) * slot_blocks layout.inodes

-- the block at which the inode table begins
abbrev pub table_start : Layout → ℕ
table_start layout = 1 + layout.cores * layout.slots * slot_blocks layout.inodes

-- the block at which the data area begins
abbrev pub data_start : Layout → ℕ
data_start layout = table_start layout + record_blocks layout.inodes

-- the numbers of a layout are in their ranges
pub record InRange (layout : Layout) : Type 0 where
  pub blocks : layout.blocks ≤ 262144
  pub inodes_low : 16 ≤ layout.inodes
  pub inodes_high : layout.inodes ≤ 16384
  pub cores_low : 1 ≤ layout.cores
  pub cores_high : layout.cores ≤ 16
  pub slots_low : 1 ≤ layout.slots
  pub slots_high : layout.slots ≤ MOST_SLOTS

-- a layout with its numbers in range, at least one data block, and no more blocks than the disk has
pub record IsLayout (len : ℕ) (layout : Layout) : Type 0 where
  pub ranges : InRange layout
  pub room : data_start layout + 1 ≤ layout.blocks
  pub within : layout.blocks ≤ len

-- the layout in a superblock
abbrev pub super_of : List ℕ → Layout
super_of block = record { blocks = u32_at 16 block; inodes = u32_at 20 block; cores = u32_at 12 block; slots = u32_at 24 block }

-- from the one bound to the other
abbrev pub is_between : ℕ → ℕ → ℕ → Bool
is_between low high x = nat_le low x && nat_le x high

-- the first wrong place of a superblock with this layout on a disk of so many blocks: the text and a disk of no blocks,
-- the version, the cores, the inodes, the slots, the blocks, the zeros
abbrev pub layout_fault : ℕ → Layout → List ℕ → Option ℕ
layout_fault len layout block =
    option_or (fault_at (not (nat_le 1 len && bytes_eq (part 0 8 block) (codes "SCALEFS1"))) 0)
    (option_or (fault_at (not (u32_at 8 block == 1)) 8)
    (option_or (fault_at (not (is_between 1 16 layout.cores)) 12)
    (option_or (fault_at (not (is_between 16 16384 layout.inodes)) 20)
    (option_or (fault_at (not (is_between 1 MOST_SLOTS layout.slots)) 24)
    (option_or (fault_at (not (nat_le layout.blocks 262144 && nat_le layout.blocks len && nat_le (data_start layout + 1) layout.blocks)) 16)
    (nonzero_in 28 4068 block))))))

-- the first wrong place of a superblock
abbrev pub super_fault : ℕ → List ℕ → Option ℕ
super_fault len block = layout_fault len (super_of block) block

-- the bytes of a superblock
abbrev pub super_bytes : Layout → List ℕ
super_bytes layout =
    codes "SCALEFS1" ++ u32_bytes 1 ++ u32_bytes layout.cores ++ u32_bytes layout.blocks ++ u32_bytes layout.inodes ++ u32_bytes layout.slots ++ zeros 4068
