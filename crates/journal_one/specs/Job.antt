-- What a commit through one journal slot writes, and where.
use Rattle.std.specs.Prelude.{◌≡◌, ℕ, zero, suc, ◌+◌, ◌-◌, ◌*◌, ◌<◌, ◌≤◌, ◌^◌, nat_lt, All, List, [], ◌∷◌, ◌++◌, map, length, slice_index_or, if◌then◌else◌}
use Rattle.std.specs.List.{flat_map}
use Rattle.sfs_image.specs.Bytes.{zeros, u32_bytes, u32s_bytes, u64_bytes}
use Rattle.sfs_image.specs.ImageOf.{FreshBlock}
use Rattle.sfs_image.specs.Journal.{Entry, AreEntries, number_byte, record_byte}
use Rattle.sfs_image.specs.Settled.{slot_byte, slot_count, table_byte}
use Rattle.sfs_image.specs.Super.{Layout, IsLayout, data_start}

-- a journal slot of a disk, by its number: slot s of core c is number c * slots + s
pub record Place : Type 0 where
  pub layout : Layout
  pub slot : ℕ

-- a commit through a slot: its commit stamp, the records that it writes, and the fresh blocks that they need
pub record Job : Type 0 where
  pub place : Place
  pub stamp : ℕ
  pub entries : List Entry
  pub fresh : List FreshBlock

-- bytes, and the byte of the disk from which on they are written
pub record Piece : Type 0 where
  pub at : ℕ
  pub bytes : List ℕ

-- a fresh block in the data area
abbrev pub fresh_piece : FreshBlock → Piece
fresh_piece one = record { at = 4096 * one.block; bytes = one.bytes }

-- the numbers of the inodes, in the blocks behind the slot's first
abbrev pub numbers_piece : Job → Piece
numbers_piece job =
    record { at = slot_byte job.place.layout job.place.slot + number_byte 0; bytes = u32s_bytes (map (λ (entry : Entry). entry.inode) job.entries) }

-- the records, in the blocks behind those
abbrev pub records_piece : Job → Piece
records_piece job =
    record {
      at = slot_byte job.place.layout job.place.slot + record_byte job.place.layout.inodes 0;
      bytes = flat_map (λ (entry : Entry). entry.bytes) job.entries;
    }

-- the count and the commit stamp, in the slot's first block, behind the gate
abbrev pub head_piece : Job → Piece
head_piece job =
    record { at = slot_byte job.place.layout job.place.slot + 512; bytes = u32_bytes (length job.entries) ++ zeros 4 ++ u64_bytes job.stamp }

-- the three pieces of a slot's body: numbers, records, count with commit stamp
abbrev pub body_piece : Job → ℕ → Piece
body_piece job zero = numbers_piece job
body_piece job (suc zero) = records_piece job
body_piece job (suc (suc k)) = head_piece job

-- no block, where there is none
abbrev pub no_block : FreshBlock
no_block = record { block = 0; bytes = [] }

-- no entry, where there is none
abbrev pub no_entry : Entry
no_entry = record { inode = 0; bytes = [] }

-- how many pieces fill a slot, the fresh blocks among them
abbrev pub fill_count : Job → ℕ
fill_count job = length job.fresh + 3

-- the pieces that fill a slot: first the fresh blocks, then the body
abbrev pub fill_piece : Job → ℕ → Piece
fill_piece job k = if nat_lt k (length job.fresh) then fresh_piece (slice_index_or job.fresh k no_block) else body_piece job (k - length job.fresh)

-- the records in the inode table, one piece each
abbrev pub table_piece : Job → ℕ → Piece
table_piece job k =
    let entry = slice_index_or job.entries k no_entry in
    record { at = table_byte job.place.layout entry.inode; bytes = entry.bytes }

-- the byte of the gate: 1 opens it, 0 shuts it
abbrev pub gate_piece : Place → ℕ → Piece
gate_piece place byte = record { at = slot_byte place.layout place.slot; bytes = byte ∷ [] }

-- the bytes of a piece lie on a disk of this layout
abbrev pub LiesOn : Layout → Piece → Type 0
LiesOn layout piece = piece.at + length piece.bytes ≤ 4096 * layout.blocks

-- the slot is one of a layout that a disk of its blocks can have
pub record IsPlace (place : Place) : Type 0 where
  pub fits : IsLayout place.layout.blocks place.layout
  pub within : place.slot < slot_count place.layout

-- a fresh block lies in the data area
pub record LiesInData (layout : Layout) (one : FreshBlock) : Type 0 where
  pub low : data_start layout ≤ one.block
  pub high : one.block < layout.blocks

-- A commit that can be written: it has records, whose inodes ascend and are below the number of inodes, and its fresh blocks are whole and
-- lie in the data area.
pub record IsJob (job : Job) : Type 0 where
  pub place : IsPlace job.place
  pub stamp : job.stamp < 2 ^ 64
  pub some : 0 < length job.entries
  pub are : AreEntries job.place.layout.inodes job.entries
  pub long : All (λ (entry : Entry). length entry.bytes ≡ 512) job.entries
  pub whole : All (λ (one : FreshBlock). length one.bytes ≡ 4096) job.fresh
  pub in_data : All (LiesInData job.place.layout) job.fresh

-- a commit of whose fresh blocks no more is said
abbrev pub without_fresh : Job → Job
without_fresh job = record job { fresh = [] }

-- no block is written twice
abbrev pub HaveOwnBlocks : List FreshBlock → Type 0
HaveOwnBlocks fresh =
    (j k : ℕ) → j < length fresh → k < length fresh → (slice_index_or fresh j no_block).block ≡ (slice_index_or fresh k no_block).block → j ≡ k
