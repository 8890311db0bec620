-- The slots of a directory after a net: a name that is gone empties its slot, a name with another child keeps it, and new names take
-- the lowest empty slots. A row that comes names its child by its node, until the commit has numbers.
use Rattle.std.specs.Prelude.{ℕ, ◌*◌, ◌==◌, ◌||◌, not, Bool, true, false, is_none, is_some, List, [], ◌∷◌, ◌++◌, length, map, drop, replicate, filter_map, Option, Some, None, option_map, count_by, slice_get, if◌then◌else◌}
use Rattle.std.specs.Int.{div_ceil}
use Rattle.std.specs.List.{list_any, range_with_len}
use Rattle.std.specs.Option.{option_map_or}
use Rattle.tree_laws.specs.Tree.{kind_if}
use Rattle.absorb.specs.declared.nets.NetRow.{NetRow}
use Rattle.sfs_image.specs.Slot.{Row}
use Rattle.image_laws.specs.Commit.{row_in_net}
use Rattle.image_laws.specs.Slots.{BLOCK_SLOTS}

-- whether a node is one of these directories
abbrev pub is_among : List ℕ → ℕ → Bool
is_among directories node = list_any (λ other. other == node) directories

-- the row that a name has after a net, where these nodes are directories
abbrev pub row_brought : List ℕ → NetRow → Option Row
row_brought directories row =
    option_map (λ child. record { inode = child.0; kind = kind_if (is_among directories child.0); name = row.name }) row.after

-- a slot after a net, before new names come
abbrev pub slot_moved : List ℕ → List NetRow → Option Row → Option Row
slot_moved directories net None = None
slot_moved directories net (Some row) = option_map_or (row_brought directories) (row_in_net row.name net) (Some row)

-- whether a net has the name of a slot
abbrev pub is_in_net : List NetRow → Option Row → Bool
is_in_net net slot = option_map_or (λ row. is_some (row_in_net row.name net)) slot false

-- a block after a net, before new names come
abbrev pub block_moved : List ℕ → List NetRow → List (Option Row) → List (Option Row)
block_moved directories net block = map (slot_moved directories net) block

-- the row of a name that is new in a net
abbrev pub row_new : List ℕ → NetRow → Option Row
row_new directories row = if is_none row.before then row_brought directories row else None

-- the rows of the names that are new in a net, in its order
abbrev pub rows_new : List ℕ → List NetRow → List Row
rows_new directories net = filter_map (row_new directories) net

-- slots with further rows, each in the lowest empty slot, as far as they have room
abbrev pub fill_front : List (Option Row) → List Row → List (Option Row)
fill_front [] rows = []
fill_front (slot ∷ slots) rows =
    (if is_none slot then slice_get rows 0 else slot) ∷ fill_front slots (if is_none slot then drop 1 rows else rows)

-- the rows that these slots leave
abbrev pub rows_left : List (Option Row) → List Row → List Row
rows_left slots rows = drop (count_by is_none slots) rows

-- the blocks of a directory after a net, as many as there were, where these rows are new
abbrev pub old_blocks_after : List ℕ → List NetRow → List (List (Option Row)) → List Row → List (List (Option Row))
old_blocks_after directories net [] rows = []
old_blocks_after directories net (block ∷ blocks) rows =
    fill_front (block_moved directories net block) rows ∷ old_blocks_after directories net blocks (rows_left (block_moved directories net block) rows)

-- the rows that they leave
abbrev pub rows_behind : List ℕ → List NetRow → List (List (Option Row)) → List Row → List Row
rows_behind directories net [] rows = rows
rows_behind directories net (block ∷ blocks) rows = rows_behind directories net blocks (rows_left (block_moved directories net block) rows)

-- whether a block of a directory changes: its slots have a name of the net, or it takes new rows
abbrev pub block_is_touched : List ℕ → List NetRow → List (Option Row) → List Row → Bool
block_is_touched directories net block rows =
    list_any (is_in_net net) block || not (length (rows_left (block_moved directories net block) rows) == length rows)

-- which blocks change
abbrev pub blocks_touched : List ℕ → List NetRow → List (List (Option Row)) → List Row → List Bool
blocks_touched directories net [] rows = []
blocks_touched directories net (block ∷ blocks) rows =
    block_is_touched directories net block rows ∷ blocks_touched directories net blocks (rows_left (block_moved directories net block) rows)

-- a block of empty slots
abbrev pub empty_block : List (Option Row)
empty_block = replicate BLOCK_SLOTS None

-- the further block of a place, which takes the rows that those before it leave
abbrev pub block_added : List Row → ℕ → List (Option Row)
block_added rows n = fill_front empty_block (drop (BLOCK_SLOTS * n) rows)

-- how many further blocks rows need
abbrev pub blocks_for : List Row → ℕ
blocks_for rows = div_ceil (length rows) BLOCK_SLOTS

-- the blocks of a directory after a net
abbrev pub slot_blocks_after : List ℕ → List NetRow → List (List (Option Row)) → List (List (Option Row))
slot_blocks_after directories net blocks =
    let rest = rows_behind directories net blocks (rows_new directories net) in
    old_blocks_after directories net blocks (rows_new directories net) ++ map (block_added rest) (range_with_len 0 (blocks_for rest))

-- which of them change: all further ones do
abbrev pub directory_touched : List ℕ → List NetRow → List (List (Option Row)) → List Bool
directory_touched directories net blocks =
    let rest = rows_behind directories net blocks (rows_new directories net) in
    blocks_touched directories net blocks (rows_new directories net) ++ replicate (blocks_for rest) true
