-- Which cells a rename changes.
use Rattle.std.specs.Prelude.{ℕ, Bool, true, false, List, [], ◌∷◌, ◌++◌, Option, Some, None}
use Rattle.sfs_base.specs.Name.{bucket as name_bucket}
use Rattle.sfs_base.specs.declared.numbers.NodeId.{NodeId}
use Rattle.tree_laws.specs.Effect.{Effect, Moves}
use Rattle.tree_laws.specs.Logged.{numbered_node}
use Rattle.mem_values.specs.declared.cell_id.CellId.{CellId}
use Rattle.mem_values.specs.declared.cell_id.CellId.TheVariants as id
use Rattle.mem_rename.specs.declared.sides.Move.{Move}
use Rattle.mem_rename.specs.Sights.{Sight, there_seen, meets_directory, goes_between, rename_by}

-- the eight buckets of a directory
abbrev pub buckets_of : NodeId → List CellId
buckets_of node =
    id.Bucket node 0 ∷ id.Bucket node 1 ∷ id.Bucket node 2 ∷ id.Bucket node 3 ∷ id.Bucket node 4 ∷ id.Bucket node 5 ∷ id.Bucket node 6 ∷ id.Bucket node 7 ∷ []

-- the cells of what stands at the new row, which goes: the buckets of a directory, or the cell of a file
abbrev pub replaced_cells : Bool → Option ℕ → List CellId
replaced_cells directory None = []
replaced_cells true (Some there) = buckets_of (numbered_node there)
replaced_cells false (Some there) = id.File (numbered_node there) ∷ []

-- the cells of a directory that comes to another one: the lock of the tree, and its buckets
abbrev pub moved_cells : Bool → ℕ → List CellId
moved_cells true child = id.Lock ∷ buckets_of (numbered_node child)
moved_cells false child = []

-- the cells that a rename's effect changes: both buckets, those of a directory that comes to another one, and those of what is replaced
abbrev pub cells_changed : Sight → Move → Effect → List CellId
cells_changed seen move (Moves directory name to_directory to_name child) =
    id.Bucket move.directory (name_bucket move.name)
    ∷ id.Bucket move.to_directory (name_bucket move.to_name)
    ∷ (moved_cells (goes_between seen move) child ++ replaced_cells (meets_directory seen move) (there_seen seen move))
cells_changed seen move _ = []

-- The cells that a rename changes: its core's log, and those that its effect does.
abbrev pub cells_of : Sight → Move → ℕ → List CellId
cells_of seen move core = id.Part (record { 0 = core }) ∷ cells_changed seen move (rename_by seen move).effect
