-- What is kept in memory of the part of an inode.
use Rattle.std.specs.Prelude.{ℕ, ◌-◌, ◌==◌, nat_lt, List, [], map, filter_map, slice_index, slice_index_or, Option, None, Some, if◌then◌else◌}
use Rattle.std.specs.List.{range_with_len, find}
use Rattle.std.specs.Option.{option_map_or}
use Rattle.sfs_image.specs.Inode.{Inode, Table, table_of, entry_of, pointers_of}
use Rattle.sfs_image.specs.Part.{Part, inode_in, is_directory_part, directory_blocks}
use Rattle.sfs_image.specs.Seen.{FILE_BLOCKS}
use Rattle.sfs_image.specs.Slot.{Row}
use Rattle.sfs_image.specs.SlotBlock.{slots_of}
use Rattle.disk_nodes.specs.OldKept.{Kept}

-- what is kept of the indirect block of a place, where the record's inode has a pointer to it; the blocks are those of the 16 places
abbrev pub table_kept : Inode → List (List ℕ) → ℕ → Option Table
table_kept inode blocks k =
    if slice_index inode.indirect k == 0 then None else Some (record { place = k; pointers = pointers_of (slice_index_or blocks k []) })

-- what is kept of the indirect blocks, by their places
unfoldable pub tables_kept : Inode → List (List ℕ) → List Table
tables_kept inode blocks = filter_map (table_kept inode blocks) (range_with_len 0 16)

-- the indirect blocks of a part that have a pointer, by their places
abbrev pub kept_tables : Part → List Table
kept_tables part = tables_kept (inode_in part) part.tables

-- the slots of a part's directory, block by block; of a file none
abbrev pub kept_slots : Part → List (List (Option Row))
kept_slots part = if is_directory_part part then map slots_of (directory_blocks part) else []

-- what is kept of a part
abbrev pub kept_of : Part → Kept
kept_of part = record { inode = inode_in part; tables = kept_tables part; slots = kept_slots part }

-- the pointer of block n of a file, by what is kept: a direct one, or one of the indirect block that has it; where that is missing
-- the block is a hole
abbrev pub block_kept : Inode → List Table → ℕ → ℕ
block_kept inode tables n =
    if nat_lt n 108 then slice_index inode.direct n
    else option_map_or (λ table. slice_index table.pointers (entry_of n)) (find (λ table. table.place == table_of n) tables) 0

-- the pointer at a place, by what is kept: of a file's block, and behind those of an indirect block
abbrev pub pointer_kept : Inode → List Table → ℕ → ℕ
pointer_kept inode tables place = if nat_lt place FILE_BLOCKS then block_kept inode tables place else slice_index inode.indirect (place - FILE_BLOCKS)
