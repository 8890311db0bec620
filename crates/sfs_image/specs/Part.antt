-- What an image has of one inode: its record and what the pointers in it reach.
use Rattle.std.specs.Prelude.{◌≡◌, ℕ, ◌-◌, ◌/◌, ◌%◌, ◌==◌, nat_lt, Bool, List, [], map, take, slice_index, slice_index_or, Option, if◌then◌else◌}
use Rattle.std.specs.List.{range_with_len, flat_map}
use Rattle.sfs_base.specs.declared.numbers.Kind.TheVariants.{File, Directory}
use Rattle.sfs_image.specs.Bytes.{zeros}
use Rattle.sfs_image.specs.Inode.{Inode, inode_of, pointers_of, table_of, entry_of}
use Rattle.sfs_image.specs.Seen.{Seen, FILE_BLOCKS}
use Rattle.sfs_image.specs.Slot.{Row, kind_byte}
use Rattle.sfs_image.specs.SlotBlock.{slots_of}

-- The part of an image that belongs to one inode: the 512 bytes of its record, the 16 indirect blocks and the 16,492 blocks,
-- each by its place.
pub record Part : Type 0 where
  pub raw : List ℕ
  pub tables : List (List ℕ)
  pub blocks : List (List ℕ)

-- the inode in the record of a part
abbrev pub inode_in : Part → Inode
inode_in part = inode_of part.raw

-- the block that a pointer names, in a store of blocks by their numbers; a pointer 0 reads as zeros
abbrev pub read_block : (ℕ → List ℕ) → ℕ → List ℕ
read_block store pointer = if pointer == 0 then zeros 4096 else store pointer

-- the pointer of block n of a file, where these are its record's inode and its indirect blocks
abbrev pub block_pointer : Inode → List (List ℕ) → ℕ → ℕ
block_pointer inode tables n =
    if nat_lt n 108 then slice_index inode.direct n else slice_index (pointers_of (slice_index_or tables (table_of n) [])) (entry_of n)

-- f 0, f 1, .., f (n - 1)
unfoldable pub tabulate : {A : Type 0} → ℕ → (ℕ → A) → List A
tabulate n f = map f (range_with_len 0 n)

-- the part of a record, gathered from a store of blocks
unfoldable pub part_of : (ℕ → List ℕ) → List ℕ → Part
part_of store raw =
    let tables = map (read_block store) (inode_of raw).indirect in
    record { raw = raw; tables = tables; blocks = tabulate FILE_BLOCKS (λ n. read_block store (block_pointer (inode_of raw) tables n)) }

-- the pointer that stands at a place of a part: of a block of the file, and behind those of an indirect block
abbrev pub pointer_at : Part → ℕ → ℕ
pointer_at part place =
    if nat_lt place FILE_BLOCKS then block_pointer (inode_in part) part.tables place else slice_index (inode_in part).indirect (place - FILE_BLOCKS)

-- the block that stands at a place of a part, or the indirect block
abbrev pub content_at : Part → ℕ → List ℕ
content_at part place =
    if nat_lt place FILE_BLOCKS then slice_index_or part.blocks place [] else slice_index_or part.tables (place - FILE_BLOCKS) []

-- a part is a free inode's, a file's, a directory's
abbrev pub is_free_part : Part → Bool
is_free_part part = (inode_in part).kind == 0

abbrev pub is_file_part : Part → Bool
is_file_part part = (inode_in part).kind == kind_byte File

abbrev pub is_directory_part : Part → Bool
is_directory_part part = (inode_in part).kind == kind_byte Directory

-- the byte of a file at a place
abbrev pub file_byte : Part → ℕ → ℕ
file_byte part place = slice_index (slice_index_or part.blocks (place / 4096) []) (place % 4096)

-- the blocks of a directory, which has one for each 4,096 bytes of its size
abbrev pub directory_blocks : Part → List (List ℕ)
directory_blocks part = take ((inode_in part).size / 4096) part.blocks

-- the bytes that a part shows: of a file, as many as its size
abbrev pub shown_bytes : Part → List ℕ
shown_bytes part = if is_file_part part then tabulate (inode_in part).size (file_byte part) else []

-- the slots that a part shows: those of a directory's blocks
abbrev pub shown_slots : Part → List (Option Row)
shown_slots part = if is_directory_part part then flat_map slots_of (directory_blocks part) else []

-- what a part shows
abbrev pub seen_of : Part → Seen
seen_of part =
    let inode = inode_in part in
    record { kind = inode.kind; links = inode.links; size = inode.size; slots = shown_slots part; bytes = shown_bytes part; blocks = pointer_at part }

-- a part is what its record gathers from a store of blocks
abbrev pub IsGathered : (ℕ → List ℕ) → Part → Type 0
IsGathered store part = part_of store part.raw ≡ part
