-- What a core holds, by the cells.
use Rattle.std.specs.Prelude.{◌≡◌, ℕ, ◌<◌, ◌==◌, Bool, false, ◌||◌, List, Option, Some, None, IsSome, is_some, nat_lt, option_map}
use Rattle.std.specs.Option.{option_and_then, option_map_or}
use Rattle.sfs_base.specs.declared.numbers.NodeId.{NodeId}
use Rattle.tree_laws.specs.Tree.{TreeState}
use Rattle.tree_laws.specs.Sound.{IsWithinLimits}
use Rattle.stamp_table.specs.declared.held.HeldCell.{HeldCell}
use Rattle.stamp_table.specs.Table.{cell_at}
use Rattle.mem_values.specs.Start.{FileHand}
use Rattle.mem_values.specs.declared.cell.Cell.{Cell}
use Rattle.mem_values.specs.declared.cell.Cell.TheVariants as cell
use Rattle.mem_values.specs.declared.cell.FileCell.{FileCell}
use Rattle.mem_values.specs.declared.cell.PartCell.{PartCell}
use Rattle.mem_values.specs.declared.cell.Pending.{Pending}
use Rattle.mem_values.specs.declared.bucket.Bucket.{Bucket}
use Rattle.mem_values.specs.declared.cell_id.CellId.{CellId}
use Rattle.mem_values.specs.declared.cell_id.CellId.TheVariants as id
use Rattle.mem_values.specs.Places.{cell_place}
use Rattle.mem_values.specs.Laws.{MayMeet}

-- the value of a cell that is held
abbrev pub value_held : ℕ → List (HeldCell Cell) → CellId → Option Cell
value_held nodes held which = option_map (λ h. h.value) (cell_at (cell_place nodes which) held)

-- the bucket, the file, the log and the flushed node that a value is
abbrev pub as_bucket : Cell → Option Bucket
as_bucket (cell.Bucket bucket) = Some bucket.value
as_bucket _ = None

abbrev pub as_file : Cell → Option FileCell
as_file (cell.File file) = Some file.value
as_file _ = None

abbrev pub as_part : Cell → Option PartCell
as_part (cell.Part part) = Some part.value
as_part _ = None

abbrev pub as_pending : Cell → Option Pending
as_pending (cell.Pending pending) = Some pending.value
as_pending _ = None

-- a bucket of a directory that is held, and a file, and the log of a core, and what was flushed of a node
abbrev pub bucket_held : ℕ → List (HeldCell Cell) → NodeId → ℕ → Option Bucket
bucket_held nodes held node number = option_and_then as_bucket (value_held nodes held (id.Bucket node number))

abbrev pub file_held : ℕ → List (HeldCell Cell) → NodeId → Option FileCell
file_held nodes held node = option_and_then as_file (value_held nodes held (id.File node))

abbrev pub part_held : ℕ → List (HeldCell Cell) → ℕ → Option PartCell
part_held nodes held core = option_and_then as_part (value_held nodes held (id.Part (record { 0 = core })))

abbrev pub pending_held : ℕ → List (HeldCell Cell) → NodeId → Option Pending
pending_held nodes held node = option_and_then as_pending (value_held nodes held (id.Pending node))

-- whether a directory stands by a bucket of it: it is the root, or stands in another one
abbrev pub is_standing : NodeId → Bucket → Bool
is_standing node bucket = node.0 == 0 || is_some bucket.stands

-- whether a bucket of a directory is held by which it stands
abbrev pub stands_held : ℕ → List (HeldCell Cell) → NodeId → ℕ → Bool
stands_held nodes held node number = option_map_or (is_standing node) (bucket_held nodes held node number) false

-- What tells whether a node of this number can be used as a directory is held: one bucket of it, and where it does not stand by that its
-- file.
pub record HoldsDirectory (nodes : ℕ) (held : List (HeldCell Cell)) (node : NodeId) (number : ℕ) : Type 0 where
  pub bucket : node.0 < nodes → IsSome (bucket_held nodes held node number)
  pub file : node.0 < nodes → stands_held nodes held node number ≡ false → IsSome (file_held nodes held node)

-- whether a file is held that a row names
abbrev pub is_linked : FileCell → Bool
is_linked file = nat_lt 0 file.links

abbrev pub linked_held : ℕ → List (HeldCell Cell) → NodeId → Bool
linked_held nodes held node = option_map_or is_linked (file_held nodes held node) false

-- What tells whether a node of this number can be used as a file is held: its file, and where no row names it as one the first bucket.
pub record HoldsFile (nodes : ℕ) (held : List (HeldCell Cell)) (node : NodeId) : Type 0 where
  pub file : node.0 < nodes → IsSome (file_held nodes held node)
  pub bucket : node.0 < nodes → linked_held nodes held node ≡ false → IsSome (bucket_held nodes held node 0)

-- the own log is held
abbrev pub HoldsPart : ℕ → FileHand → Type 0
HoldsPart nodes hand = IsSome (part_held nodes hand.held hand.view.core)

-- a fact of each tree that the values show which a core holds
abbrev pub InEach : FileHand → (TreeState → Type 0) → Type 0
InEach hand P = (tree : TreeState) → MayMeet hand.view hand.held tree → P tree

-- There is such a tree, within its limits.
abbrev pub CanMeet : FileHand → Type 0
CanMeet hand = (tree : TreeState) × MayMeet hand.view hand.held tree × IsWithinLimits tree
