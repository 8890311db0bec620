-- What a commit makes of one node, before it has numbers and fresh blocks.
use Rattle.std.specs.Prelude.{ℕ, ◌==◌, ◌&&◌, ◌||◌, not, nat_le, min, suc, Bool, false, is_none, List, [], ◌∷◌, length, map, filter_map, slice_index_or, Option, Some, None, if◌then◌else◌}
use Rattle.std.specs.List.{list_all, range_with_len}
use Rattle.sfs_image.specs.Bytes.{nonzero_in}
use Rattle.sfs_image.specs.Seen.{FILE_BLOCKS}
use Rattle.sfs_image.specs.Slot.{Row}
use Rattle.image_laws.specs.Stands.{BLOCK_BYTES}
use Rattle.block_map.specs.declared.changed.ChangedBlock.{ChangedBlock}
use Rattle.disk_change.specs.declared.pages.Page.{Page}

-- whether a block has no row
abbrev pub has_no_row : List (Option Row) → Bool
has_no_row block = list_all is_none block

-- how many blocks there are up to the last one that has a row
abbrev pub blocks_to_last_row : List (List (Option Row)) → ℕ
blocks_to_last_row [] = 0
blocks_to_last_row (block ∷ blocks) = if has_no_row block && blocks_to_last_row blocks == 0 then 0 else suc (blocks_to_last_row blocks)

-- what is said of block n of a directory: it is rewritten where it changes, or where it is there behind the last one with a row
abbrev pub block_said : (ℕ → ℕ) → List (List (Option Row)) → List Bool → ℕ → Option ChangedBlock
block_said pointers blocks touched n =
    if slice_index_or touched n false || (nat_le (blocks_to_last_row blocks) n && not (pointers n == 0))
    then Some (record { block = n; is_zero = has_no_row (slice_index_or blocks n []) }) else None

-- the blocks of a directory that are rewritten
abbrev pub directory_changed : (ℕ → ℕ) → List (List (Option Row)) → List Bool → List ChangedBlock
directory_changed pointers blocks touched = filter_map (block_said pointers blocks touched) (range_with_len 0 (min (length blocks) FILE_BLOCKS))

-- what is said of a page: it is rewritten, and all zeros or not
abbrev pub page_said : Page → ChangedBlock
page_said page = record { block = page.block; is_zero = is_none (nonzero_in 0 BLOCK_BYTES page.bytes) }

-- the blocks of a file that are rewritten
abbrev pub file_changed : List Page → List ChangedBlock
file_changed pages = map page_said pages
