-- What a transaction writes.
use Rattle.std.specs.Prelude.{◌≡◌, ℕ, ◌<◌, All, List, map, length}
use Rattle.std.specs.List.{flat_map}
use Rattle.std.specs.List.Sorted.{IsStrictlyIncreasing}
use Rattle.sfs_image.specs.Bytes.{u32s_bytes}
use Rattle.sfs_image.specs.ImageOf.{FreshBlock}
use Rattle.sfs_image.specs.Journal.{Entry}
use Rattle.fmt_journal.specs.declared.tx.Tx.{Tx}
use Rattle.fmt_journal.specs.declared.tx.TxBlock.{TxBlock}
use Rattle.fmt_journal.specs.declared.tx.TxRecord.{TxRecord}

-- the records of a transaction, and its fresh blocks
pub record Contents : Type 0 where
  pub entries : List Entry
  pub fresh : List FreshBlock

-- an inode and its record
abbrev pub record_entry : TxRecord → Entry
record_entry one = record { inode = one.inode; bytes = one.bytes }

-- a block and its bytes
abbrev pub block_of : TxBlock → FreshBlock
block_of one = record { block = one.block; bytes = one.bytes }

-- the inode of an entry, and its bytes
abbrev pub inode_of_entry : Entry → ℕ
inode_of_entry entry = entry.inode

abbrev pub bytes_of_entry : Entry → List ℕ
bytes_of_entry entry = entry.bytes

-- what a transaction writes
abbrev pub contents_of : Tx → Contents
contents_of tx = record { entries = map record_entry tx.records.items; fresh = map block_of tx.fresh.items }

-- What a transaction writes can be: it has records, which ascend by inode, each record has its 512 bytes, and each fresh block its 4,096.
pub record AreContents (contents : Contents) : Type 0 where
  pub some : 0 < length contents.entries
  pub ascend : IsStrictlyIncreasing (map inode_of_entry contents.entries)
  pub long : All (λ (entry : Entry). length entry.bytes ≡ 512) contents.entries
  pub whole : All (λ (one : FreshBlock). length one.bytes ≡ 4096) contents.fresh

-- These are the numbers and the records of a transaction, one behind another.
pub record IsPacked (contents : Contents) (numbers records : List ℕ) : Type 0 where
  pub sound : AreContents contents
  pub numbered : numbers ≡ u32s_bytes (map inode_of_entry contents.entries)
  pub laid : records ≡ flat_map bytes_of_entry contents.entries
