-- Where cells lie in memory, by how many nodes there may be. Buckets and files lie by their numbers, so that the buckets of one directory
-- lie far from each other. The buckets of one number lie so that those of neighbouring nodes are apart too; the files lie by their nodes.
-- Each other cell lies at its place.
use Rattle.std.specs.Prelude.{ℕ, ◌+◌, ◌-◌, ◌*◌, ◌/◌, ◌%◌, ◌&&◌, nat_lt, nat_le, Bool, if◌then◌else◌}

-- A place in rows of so many columns, counted row by row, is turned to its place column by column: rows become columns.
abbrev pub turned : ℕ → ℕ → ℕ → ℕ
turned rows columns at = at % columns * rows + at / columns

-- how far the buckets of two neighbouring nodes lie apart
abbrev pub stride : ℕ → ℕ
stride nodes = nodes / 64

-- Whether a node lies apart from its neighbours, where its number is that of a bucket. The last nodes, fewer than 64, don't.
abbrev pub lies_apart : ℕ → ℕ → ℕ → Bool
lies_apart nodes number node = nat_lt number 8 && nat_lt node (64 * stride nodes)

-- the seat of a node among the cells of a number
abbrev pub seat_of : ℕ → ℕ → ℕ → ℕ
seat_of nodes number node = if lies_apart nodes number node then turned (stride nodes) 64 node else node

-- the node that has a seat among the cells of a number
abbrev pub node_at : ℕ → ℕ → ℕ → ℕ
node_at nodes number seat = if lies_apart nodes number seat then turned 64 (stride nodes) seat else seat

-- whether this is a place of a bucket or a file, or a slot of one: the same slots as places are theirs
abbrev pub is_of_node : ℕ → ℕ → Bool
is_of_node nodes at = nat_le 16 at && nat_lt at (16 + 9 * nodes)

-- the slot of what lies so many places behind the first bucket
abbrev pub slot_behind : ℕ → ℕ → ℕ
slot_behind nodes behind = 16 + behind % 9 * nodes + seat_of nodes (behind % 9) (behind / 9)

-- the place of what lies so many slots behind the first bucket
abbrev pub place_behind : ℕ → ℕ → ℕ
place_behind nodes behind = 16 + 9 * node_at nodes (behind / nodes) (behind % nodes) + behind / nodes

-- the slot of a place, where there may be so many nodes
abbrev pub slot_in : ℕ → ℕ → ℕ
slot_in nodes place = if is_of_node nodes place then slot_behind nodes (place - 16) else place

-- the place of a slot, where there may be so many nodes
abbrev pub place_in : ℕ → ℕ → ℕ
place_in nodes slot = if is_of_node nodes slot then place_behind nodes (slot - 16) else slot
