-- Which cells a call changes.
use Rattle.std.specs.Prelude.{◌≡◌, ◌⊎◌, ℕ, ◌==◌, Bool, true, false, not, ◌||◌, ◌&&◌, is_some}
use Rattle.sfs_base.specs.Name.{bucket}
use Rattle.tree_laws.specs.declared.call.Call.{Call}
use Rattle.tree_laws.specs.declared.call.Call.TheVariants as call
use Rattle.tree_laws.specs.Tree.{TreeState, row_of, is_directory, is_directory_kind, next_number}
use Rattle.tree_laws.specs.Parts.{is_this}
use Rattle.tree_laws.specs.Footprints.{DoesNothing, own_kind, touches_part, touches_bytes, touches_links}
use Rattle.tree_laws.specs.Lock.{needs_lock}
use Rattle.tree_laws.specs.Verdict.{verdict, tree_after_call}
use Rattle.mem_values.specs.declared.cell_id.CellId.{CellId}
use Rattle.mem_values.specs.declared.cell_id.CellId.TheVariants as id

-- whether a call may change where a directory stands
abbrev pub touches_standing : TreeState → ℕ → Call → ℕ → Bool
touches_standing tree core (call.Make directory name kind) node = is_directory_kind kind && (next_number tree core == node)
touches_standing tree core (call.Rmdir directory name) node = is_this node (row_of tree directory.0 name)
touches_standing tree core (call.Rename directory name to_directory to_name) node =
    is_directory tree node
    && (is_this node (row_of tree to_directory.0 to_name) || (not (directory.0 == to_directory.0) && is_this node (row_of tree directory.0 name)))
touches_standing tree core _ node = false

-- whether a call may change what is said of a file: its bytes, or how many rows name it
abbrev pub touches_file : TreeState → ℕ → Call → ℕ → Bool
touches_file tree core c node = touches_bytes c node || (touches_links tree core c node && not (is_directory (tree_after_call tree core c) node))

-- whether a call makes this node
abbrev pub makes_node : TreeState → ℕ → Call → ℕ → Bool
makes_node tree core c node = is_some (own_kind c) && (next_number tree core == node)

-- whether a call may change a cell where it does something, and its core's log in any case
abbrev pub touches_cell : TreeState → ℕ → Call → CellId → Bool
touches_cell tree core c id.Lock = needs_lock tree core c
touches_cell tree core c (id.Bucket node number) = touches_part c node.0 (λ name. bucket name == number) || touches_standing tree core c node.0
touches_cell tree core c (id.File node) = touches_file tree core c node.0
touches_cell tree core c (id.Pending node) = makes_node tree core c node.0
touches_cell tree core c (id.Part other) = core == other.0

-- whether a cell is a log
abbrev pub is_part : CellId → Bool
is_part (id.Part core) = true
is_part _ = false

-- A call keeps a cell: it does not touch it, or does nothing, and the cell is no log.
abbrev pub KeepsCell : TreeState → ℕ → Call → CellId → Type 0
KeepsCell tree core c cell = (touches_cell tree core c cell ≡ false) ⊎ (DoesNothing (verdict tree core c) × (is_part cell ≡ false))
