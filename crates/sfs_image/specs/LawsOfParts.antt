-- The laws of the parts of inodes and of the rules on them, each of which a function of the module laws proves.
use Rattle.std.specs.Prelude.{◌≡◌, ◌≢◌, ◌↔◌, All, length, slice_index_or, [], ℕ, ◌+◌, ◌*◌, ◌/◌, ◌%◌, ◌<◌, ◌≤◌, false, true, List, Option, None, slice_index}
use Rattle.sfs_image.specs.Inode.{table_of, entry_of, inode_of, pointers_of}
use Rattle.sfs_image.specs.Part.{Part, inode_in, part_of, seen_of, pointer_at, file_byte, directory_blocks, is_free_part, is_file_part, is_directory_part, read_block}
use Rattle.sfs_image.specs.Rules.{DIRECTORY_BLOCKS, HasBlockAt, first_covered, breaks_size, breaks_pointers, breaks_apart, breaks_tail, breaks_slots, breaks_bytes_rule}
use Rattle.sfs_image.specs.Seen.{FILE_BLOCKS, PLACES}
use Rattle.sfs_image.specs.Slot.{Row}
use Rattle.sfs_image.specs.SlotBlock.{slot_in, slots_fault}
use Rattle.sfs_image.specs.Super.{Layout, data_start}

-- A byte of a file is 0 where its block has no pointer.
abbrev pub HolesAreZeros : Type 0
HolesAreZeros = (store : ℕ → List ℕ) (raw : List ℕ) (place : ℕ) → place < 4096 * FILE_BLOCKS → pointer_at (part_of store raw) (place / 4096) ≡ 0
    → file_byte (part_of store raw) place ≡ 0

-- A byte of a file is that of the block that its block's pointer names.
abbrev pub BytesAreTheBlocks : Type 0
BytesAreTheBlocks = (store : ℕ → List ℕ) (raw : List ℕ) (place : ℕ) → place < 4096 * FILE_BLOCKS → pointer_at (part_of store raw) (place / 4096) ≢ 0
    → file_byte (part_of store raw) place ≡ slice_index (store (pointer_at (part_of store raw) (place / 4096))) (place % 4096)

-- these bytes are those of a file, as many as its size
pub record AreTheBytes (part : Part) (bytes : List ℕ) : Type 0 where
  pub size : length bytes ≡ (inode_in part).size
  pub each : (place : ℕ) → place < (inode_in part).size → slice_index bytes place ≡ file_byte part place

-- A file shows its bytes.
abbrev pub BytesAreShown : Type 0
BytesAreShown = (part : Part) → is_file_part part ≡ true → AreTheBytes part (seen_of part).bytes

-- these slots are those of a directory's blocks, 15 of each, block after block
pub record AreTheSlots (part : Part) (slots : List (Option Row)) : Type 0 where
  pub count : length slots ≡ 15 * length (directory_blocks part)
  pub each : (n k : ℕ) → n < length (directory_blocks part) → k < 15
      → slice_index_or slots (15 * n + k) None ≡ slot_in (slice_index_or (directory_blocks part) n []) k

-- A directory shows its slots.
abbrev pub SlotsAreShown : Type 0
SlotsAreShown = (part : Part) → is_directory_part part ≡ true → AreTheSlots part (seen_of part).slots

-- where the pointers of a part stand: of the first 108 blocks in the record, of 1,024 further ones each in an indirect block, and
-- those of the indirect blocks in the record again
pub record HavePlaces (store : ℕ → List ℕ) (raw : List ℕ) : Type 0 where
  pub direct : (n : ℕ) → n < 108 → pointer_at (part_of store raw) n ≡ slice_index (inode_of raw).direct n
  pub through : (k entry : ℕ) → k < 16 → entry < 1024
      → pointer_at (part_of store raw) (108 + 1024 * k + entry) ≡ slice_index (pointers_of (read_block store (slice_index (inode_of raw).indirect k))) entry
  pub indirect : (k : ℕ) → pointer_at (part_of store raw) (FILE_BLOCKS + k) ≡ slice_index (inode_of raw).indirect k

-- Pointers stand at these places in each part.
abbrev pub PointersHavePlaces : Type 0
PointersHavePlaces = (store : ℕ → List ℕ) (raw : List ℕ) → HavePlaces store raw

-- A part is the same in each store that has the same blocks where the part has pointers.
abbrev pub PartsAreWhatTheyReach : Type 0
PartsAreWhatTheyReach = (store other : ℕ → List ℕ) (raw : List ℕ)
    → ((place : ℕ) → pointer_at (part_of store raw) place ≢ 0 → other (pointer_at (part_of store raw) place) ≡ store (pointer_at (part_of store raw) place))
    → part_of other raw ≡ part_of store raw

-- A free inode, other than inode 0, breaks no rule but the first.
abbrev pub FreeInodesBreakNone : Type 0
FreeInodesBreakNone = (rule : ℕ) (layout : Layout) (parts : ℕ → Part) (i : ℕ) → rule ≢ 1 → i ≢ 0 → is_free_part (parts i) ≡ true
    → breaks_bytes_rule rule layout parts i ≡ false

-- Where inodes keep the fifth rule each block stands at one place of one of those in use.
abbrev pub BlocksHaveOnePlace : Type 0
BlocksHaveOnePlace = (parts : ℕ → Part) (i j p q : ℕ) → HasBlockAt parts i p → HasBlockAt parts j q → pointer_at (parts i) p ≡ pointer_at (parts j) q
    → (i ≡ j) × (p ≡ q)

-- the size of a file or directory is one that it can have
pub record FitsSize (part : Part) : Type 0 where
  pub file : is_file_part part ≡ true → (inode_in part).size ≤ 4096 * FILE_BLOCKS
  pub whole : is_directory_part part ≡ true → (inode_in part).size % 4096 ≡ 0
  pub few : is_directory_part part ≡ true → (inode_in part).size ≤ 4096 * DIRECTORY_BLOCKS

-- An inode keeps the third rule exactly where its size is one that it can have.
abbrev pub SizesSay : Type 0
SizesSay = (part : Part) → (breaks_size part ≡ false) ↔ FitsSize part

-- the pointer at a place names a block of the data area and covers a byte below the size
pub record PointsWell (layout : Layout) (part : Part) (place : ℕ) : Type 0 where
  pub low : data_start layout ≤ pointer_at part place
  pub high : pointer_at part place < layout.blocks
  pub covers : first_covered place < (inode_in part).size

-- A pointer of a file's block covers the block's bytes.
abbrev pub BlocksCoverTheirOwn : Type 0
BlocksCoverTheirOwn = (n : ℕ) → n < FILE_BLOCKS → first_covered n ≡ 4096 * n

-- A pointer of an indirect block covers bytes from those of the block on whose pointer is the first in it.
abbrev pub TablesCoverFromTheirFirst : Type 0
TablesCoverFromTheirFirst = (k n : ℕ) → 108 ≤ n → table_of n ≡ k → entry_of n ≡ 0 → first_covered (FILE_BLOCKS + k) ≡ 4096 * n

-- How many bytes the largest file has, and how many blocks of 15 rows a directory with 8 buckets of 4,096 rows.
pub record AreTheLimits : Type 0 where
  pub file : 4096 * FILE_BLOCKS ≡ 67551232
  pub directory : DIRECTORY_BLOCKS ≡ (8 * 4096 + 14) / 15

-- An inode in use keeps the fourth rule exactly where each of its pointers does so.
abbrev pub PointersSay : Type 0
PointersSay = (layout : Layout) (part : Part) → is_free_part part ≡ false
    → (breaks_pointers layout part ≡ false) ↔ ((place : ℕ) → place < PLACES → pointer_at part place ≢ 0 → PointsWell layout part place)

-- the block at a place of inode i stands at no place before it: of an inode below i, or of its own
pub record StandsNowhereBefore (parts : ℕ → Part) (i place : ℕ) : Type 0 where
  pub below : (j q : ℕ) → j < i → q < PLACES → pointer_at (parts j) q ≢ pointer_at (parts i) place
  pub before : (q : ℕ) → q < place → pointer_at (parts i) q ≢ pointer_at (parts i) place

-- An inode in use keeps the fifth rule exactly where each of its blocks stands at no place before.
abbrev pub BlocksSay : Type 0
BlocksSay = (parts : ℕ → Part) (i : ℕ) → is_free_part (parts i) ≡ false
    → (breaks_apart parts i ≡ false) ↔ ((place : ℕ) → place < PLACES → pointer_at (parts i) place ≢ 0 → StandsNowhereBefore parts i place)

-- A file keeps the sixth rule exactly where each byte past its size in its last block is 0.
abbrev pub TailsSay : Type 0
TailsSay = (part : Part) → (breaks_tail part ≡ false)
    ↔ (is_file_part part ≡ true → (place : ℕ) → (inode_in part).size ≤ place → place < 4096 * (((inode_in part).size + 4095) / 4096) → file_byte part place ≡ 0)

-- A directory keeps the seventh rule exactly where nothing is wrong in its blocks of slots.
abbrev pub SlotsSay : Type 0
SlotsSay = (part : Part) → (breaks_slots part ≡ false)
    ↔ (is_directory_part part ≡ true → All (λ block. slots_fault block ≡ None) (directory_blocks part))
