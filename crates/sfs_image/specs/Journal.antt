-- A journal slot: its head in the first block, then blocks of inode numbers, then blocks of records.
use Rattle.std.specs.Prelude.{◌≡◌, All, Some, slice_get, ℕ, ◌+◌, ◌*◌, ◌-◌, ◌<◌, ◌==◌, ◌^◌, ◌&&◌, ◌||◌, nat_lt, not, min, Bool, List, ◌++◌, length, map, slice_index, Option, None, if◌then◌else◌}
use Rattle.std.specs.Option.{option_or}
use Rattle.std.specs.List.{range_with_len, list_any, flat_map}
use Rattle.std.specs.List.Sorted.{IsStrictlyIncreasing}
use Rattle.sfs_image.specs.Bytes.{part, zeros, u32_at, u64_at, u32s_at, u32_bytes, u32s_bytes, u64_bytes, fault_at, first_of}
use Rattle.sfs_image.specs.Super.{number_blocks}

-- what the first block of a slot says: whether the gate is open, how many inodes the slot has, and its commit stamp
pub record Head : Type 0 where
  pub gate : Bool
  pub count : ℕ
  pub stamp : ℕ

-- the head in a block. The gate is open exactly where byte 0 is 1.
abbrev pub head_of : List ℕ → Head
head_of block = record { gate = slice_index block 0 == 1; count = u32_at 512 block; stamp = u64_at 520 block }

-- the bytes of a head with a closed gate
abbrev pub head_bytes : Head → List ℕ
head_bytes head = zeros 512 ++ u32_bytes head.count ++ zeros 4 ++ u64_bytes head.stamp ++ zeros 3568

-- this can stand in a slot's first block
pub record IsHead (head : Head) : Type 0 where
  pub count : head.count < 2 ^ 32
  pub stamp : head.stamp < 2 ^ 64

-- the inode numbers of a slot, on a disk of so many inodes
abbrev pub numbers_of : ℕ → List ℕ → List ℕ
numbers_of inodes slot = u32s_at 4096 (min (head_of (part 0 4096 slot)).count inodes) slot

-- the block of a slot, counted from its begin, at which its records begin
abbrev pub records_start : ℕ → ℕ
records_start inodes = 1 + number_blocks inodes

-- where the number of an entry stands, in bytes from the slot's begin
abbrev pub number_byte : ℕ → ℕ
number_byte k = 4096 + 4 * k

-- where the record of an entry stands
abbrev pub record_byte : ℕ → ℕ → ℕ
record_byte inodes k = 4096 * records_start inodes + 512 * k

-- an inode and the 512 bytes of its record
pub record Entry : Type 0 where
  pub inode : ℕ
  pub bytes : List ℕ

-- what a slot holds
abbrev pub entries_of : ℕ → List ℕ → List Entry
entries_of inodes slot =
    let numbers = numbers_of inodes slot in
    map (λ k. record { inode = slice_index numbers k; bytes = part (record_byte inodes k) 512 slot }) (range_with_len 0 (length numbers))

-- the first wrong place of an open slot's head, where those commit stamps are the ones of the open slots before it: the
-- count, the commit stamp
abbrev pub head_fault : ℕ → List ℕ → Head → Option ℕ
head_fault inodes stamps head =
    option_or (fault_at (nat_lt inodes head.count) 512) (fault_at (list_any (λ stamp. stamp == head.stamp) stamps) 520)

-- the k-th number is below the number of inodes and above the one before it
abbrev pub is_next : ℕ → List ℕ → ℕ → Bool
is_next inodes numbers k =
    nat_lt (slice_index numbers k) inodes && (k == 0 || nat_lt (slice_index numbers (k - 1)) (slice_index numbers k))

-- the place of the first wrong number
abbrev pub numbers_fault : ℕ → List ℕ → Option ℕ
numbers_fault inodes numbers = first_of (length numbers) (λ k. fault_at (not (is_next inodes numbers k)) (number_byte k))

-- the first wrong place of a slot: none in a closed one; else that of its head, and then of its numbers
abbrev pub journal_fault : ℕ → List ℕ → List ℕ → Option ℕ
journal_fault inodes stamps slot =
    let head = head_of (part 0 4096 slot) in
    if head.gate then option_or (head_fault inodes stamps head) (numbers_fault inodes (numbers_of inodes slot)) else None

-- these can be the entries of a slot, on a disk of so many inodes: their numbers ascend and are below it
pub record AreEntries (inodes : ℕ) (entries : List Entry) : Type 0 where
  pub ascend : IsStrictlyIncreasing (map (λ (entry : Entry). entry.inode) entries)
  pub below : All (λ (entry : Entry). entry.inode < inodes) entries

-- in a slot stand these entries, counted in its head, each with its number and its record at its place
pub record HasEntries (inodes : ℕ) (entries : List Entry) (slot : List ℕ) : Type 0 where
  pub count : (head_of (part 0 4096 slot)).count ≡ length entries
  pub numbers : (k : ℕ) (entry : Entry) → slice_get entries k ≡ Some entry → part (number_byte k) 4 slot ≡ u32_bytes entry.inode
  pub records : (k : ℕ) (entry : Entry) → slice_get entries k ≡ Some entry → part (record_byte inodes k) 512 slot ≡ entry.bytes

-- in a slot these entries stand in two ranges, their numbers one behind another and then their records of 512 bytes
pub record HasRangesOf (inodes : ℕ) (entries : List Entry) (slot : List ℕ) : Type 0 where
  pub count : (head_of (part 0 4096 slot)).count ≡ length entries
  pub long : All (λ (entry : Entry). length entry.bytes ≡ 512) entries
  pub numbers : part (number_byte 0) (4 * length entries) slot ≡ u32s_bytes (map (λ (entry : Entry). entry.inode) entries)
  pub records : part (record_byte inodes 0) (512 * length entries) slot ≡ flat_map (λ (entry : Entry). entry.bytes) entries
