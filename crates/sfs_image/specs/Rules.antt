-- The rules of an image that speak of the bytes and pointers of its inodes: rules 1 to 7 of fourteen. For each of them a test
-- whether an inode breaks it. A rule is looked at only where all rules before it hold.
use Rattle.std.specs.Prelude.{◌≡◌, ◌≢◌, ◌<◌, ℕ, zero, suc, ◌+◌, ◌*◌, ◌-◌, ◌/◌, ◌%◌, ◌==◌, ◌&&◌, ◌||◌, nat_lt, nat_le, Bool, false, not, is_some, [], slice_index_or, if◌then◌else◌}
use Rattle.std.specs.List.{list_any}
use Rattle.sfs_image.specs.Bytes.{nonzero_in}
use Rattle.sfs_image.specs.Inode.{inode_fault}
use Rattle.sfs_image.specs.Part.{Part, inode_in, pointer_at, is_free_part, is_file_part, is_directory_part, directory_blocks}
use Rattle.sfs_image.specs.Seen.{FILE_BLOCKS, PLACES}
use Rattle.sfs_image.specs.SlotBlock.{slots_fault}
use Rattle.sfs_image.specs.Super.{Layout, data_start}

-- how many blocks a directory has at most
abbrev pub DIRECTORY_BLOCKS : ℕ
DIRECTORY_BLOCKS = 2185

-- whether one of 0, 1, .., n - 1 passes a test
unfoldable pub any_below : ℕ → (ℕ → Bool) → Bool
any_below zero test = false
any_below (suc n) test = any_below n test || test n

-- rule 1: its record has a kind above 2, a byte at 1 to 3 that is not zero, or is free and not all zeros
abbrev pub breaks_record : Part → Bool
breaks_record part = is_some (inode_fault part.raw)

-- rule 2: it is inode 0, the root, and no directory
abbrev pub breaks_root : Part → ℕ → Bool
breaks_root part i = i == 0 && not (is_directory_part part)

-- rule 3: it is a file of more bytes than its blocks have, or a directory whose size is no whole number of blocks or more than
-- 2,185 of them
abbrev pub breaks_size : Part → Bool
breaks_size part =
    let size = (inode_in part).size in
    (is_file_part part && nat_lt (4096 * FILE_BLOCKS) size)
    || (is_directory_part part && (not (size % 4096 == 0) || nat_lt (4096 * DIRECTORY_BLOCKS) size))

-- the first byte of a file that the pointer of a place covers: that of its block, or that of the first of the 1,024 blocks
-- whose pointers an indirect block has
abbrev pub first_covered : ℕ → ℕ
first_covered place = if nat_lt place FILE_BLOCKS then 4096 * place else 4096 * (108 + 1024 * (place - FILE_BLOCKS))

-- a block lies in the data area
abbrev pub is_data_block : Layout → ℕ → Bool
is_data_block layout block = nat_le (data_start layout) block && nat_lt block layout.blocks

-- the pointer of a place is none, or names a block of the data area and covers a byte below the size
abbrev pub is_good_pointer : Layout → Part → ℕ → Bool
is_good_pointer layout part place =
    pointer_at part place == 0 || (is_data_block layout (pointer_at part place) && nat_lt (first_covered place) (inode_in part).size)

-- rule 4: a pointer other than 0, in its record or its indirect blocks, lies outside the data area or covers no byte below its size
abbrev pub breaks_pointers : Layout → Part → Bool
breaks_pointers layout part = not (is_free_part part) && any_below PLACES (λ place. not (is_good_pointer layout part place))

-- at one of the first n places of a part stands this block
abbrev pub stands_below : ℕ → Part → ℕ → Bool
stands_below n part block = any_below n (λ place. pointer_at part place == block)

-- the block at a place of an inode, which is there, stands at an earlier place too: of an inode below it, or of its own
abbrev pub is_held_before : (ℕ → Part) → ℕ → ℕ → Bool
is_held_before parts i place =
    let block = pointer_at (parts i) place in
    not (block == 0) && (any_below i (λ j. stands_below PLACES (parts j) block) || stands_below place (parts i) block)

-- rule 5: one of its blocks is held twice by it, or by an inode below it too
abbrev pub breaks_apart : (ℕ → Part) → ℕ → Bool
breaks_apart parts i = not (is_free_part (parts i)) && any_below PLACES (is_held_before parts i)

-- rule 6: it is a file, and a byte past its size in its last block is not zero
abbrev pub breaks_tail : Part → Bool
breaks_tail part =
    let size = (inode_in part).size in
    is_file_part part && not (size % 4096 == 0)
    && is_some (nonzero_in (size % 4096) (4096 - size % 4096) (slice_index_or part.blocks (size / 4096) []))

-- rule 7: it is a directory with a malformed slot, or a byte that is not zero after the slots of a block
abbrev pub breaks_slots : Part → Bool
breaks_slots part = is_directory_part part && list_any (λ block. is_some (slots_fault block)) (directory_blocks part)

-- whether inode i breaks the rule of a number, from 1 to 7
abbrev pub breaks_bytes_rule : ℕ → Layout → (ℕ → Part) → ℕ → Bool
breaks_bytes_rule rule layout parts i =
    if rule == 1 then breaks_record (parts i)
    else if rule == 2 then breaks_root (parts i) i
    else if rule == 3 then breaks_size (parts i)
    else if rule == 4 then breaks_pointers layout (parts i)
    else if rule == 5 then breaks_apart parts i
    else if rule == 6 then breaks_tail (parts i)
    else rule == 7 && breaks_slots (parts i)

-- an inode in use that keeps the fifth rule has a block at a place
pub record HasBlockAt (parts : ℕ → Part) (i place : ℕ) : Type 0 where
  pub used : is_free_part (parts i) ≡ false
  pub keeps : breaks_apart parts i ≡ false
  pub within : place < PLACES
  pub there : pointer_at (parts i) place ≢ 0
