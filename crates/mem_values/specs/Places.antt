-- Where cells lie: the lock of the tree first, then by nodes their buckets and files, then what was flushed of each node, then the logs.
-- The lock and each log have a line of memory to themselves.
use Rattle.std.specs.Prelude.{◌≡◌, ◌⊎◌, ℕ, ◌+◌, ◌*◌, ◌<◌, length}
use Rattle.tree_laws.specs.Tree.{TreeState}
use Rattle.mem_values.specs.declared.cell_id.CellId.{CellId}
use Rattle.mem_values.specs.declared.cell_id.CellId.TheVariants.{Lock, Bucket, File, Pending, Part}

-- how many nodes there may be
abbrev pub node_count : TreeState → ℕ
node_count first = first.first + first.share * length first.made

-- the place of a cell, where there may be so many nodes
abbrev pub cell_place : ℕ → CellId → ℕ
cell_place nodes Lock = 0
cell_place nodes (Bucket node bucket) = 16 + 9 * node.0 + bucket
cell_place nodes (File node) = 24 + 9 * node.0
cell_place nodes (Pending node) = 16 + 9 * nodes + node.0
cell_place nodes (Part core) = 32 + 10 * nodes + 16 * core.0

-- how many places a table of so many nodes and cores has
abbrev pub place_count : ℕ → ℕ → ℕ
place_count nodes cores = 32 + 10 * nodes + 16 * cores

-- a cell of a table of so many nodes and cores
abbrev pub IsCell : ℕ → ℕ → CellId → Type 0
IsCell nodes cores Lock = Unit {0}
IsCell nodes cores (Bucket node bucket) = (node.0 < nodes) × (bucket < 8)
IsCell nodes cores (File node) = node.0 < nodes
IsCell nodes cores (Pending node) = node.0 < nodes
IsCell nodes cores (Part core) = core.0 < cores

-- The order of the cells: the lock; buckets and files by their nodes, a node's buckets before its file; what was flushed by nodes; logs by cores.
abbrev pub cell_order : CellId → ℕ × (ℕ × ℕ)
cell_order Lock = (0, (0, 0))
cell_order (Bucket node bucket) = (1, (node.0, bucket))
cell_order (File node) = (1, (node.0, 8))
cell_order (Pending node) = (2, (node.0, 0))
cell_order (Part core) = (3, (core.0, 0))

-- one of these comes before the other: by the first number in which they differ
abbrev pub LiesBefore : ℕ × (ℕ × ℕ) → ℕ × (ℕ × ℕ) → Type 0
LiesBefore a b = (a.0 < b.0) ⊎ ((a.0 ≡ b.0) × ((a.1.0 < b.1.0) ⊎ ((a.1.0 ≡ b.1.0) × (a.1.1 < b.1.1))))

-- two cells at one place are one
abbrev pub PlacesApart : Type 0
PlacesApart =
    (nodes cores : ℕ) (cell other : CellId) → IsCell nodes cores cell → IsCell nodes cores other → cell_place nodes cell ≡ cell_place nodes other → cell ≡ other

-- Places ascend in the order of the cells.
abbrev pub PlacesAscend : Type 0
PlacesAscend =
    (nodes cores : ℕ) (cell other : CellId) → IsCell nodes cores cell → IsCell nodes cores other → LiesBefore (cell_order cell) (cell_order other)
    → cell_place nodes cell < cell_place nodes other
