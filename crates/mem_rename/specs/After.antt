-- With what values the cells that a rename changed go home.
use Rattle.std.specs.Prelude.{◌≡◌, ℕ, ◌+◌, ◌==◌, Bool, true, false, not, ◌&&◌, Option, Some, None, if◌then◌else◌}
use Rattle.std.specs.FinMap.{FinMap}
use Rattle.sfs_base.specs.Name.{bucket as name_bucket}
use Rattle.tree_laws.specs.Order.{name_cmp}
use Rattle.tree_laws.specs.NameRow.{number_of}
use Rattle.tree_laws.specs.Effect.{Moves}
use Rattle.tree_laws.specs.Parts.{is_this, part_after, part_without}
use Rattle.mem_values.specs.declared.bucket.Bucket.{Bucket}
use Rattle.sfs_base.specs.declared.numbers.Stamp.{Stamp}
use Rattle.mem_cells.specs.Part.{IsAddedTo}
use Rattle.mem_values.specs.declared.cell.Cell.{Cell}
use Rattle.mem_values.specs.declared.cell.Cell.TheVariants as cell
use Rattle.mem_values.specs.declared.cell.FileCell.{FileCell}
use Rattle.mem_values.specs.declared.cell.PartCell.{PartCell}
use Rattle.mem_values.specs.declared.cell.TreeLock.{TreeLock}
use Rattle.mem_values.specs.declared.cell_id.CellId.{CellId}
use Rattle.mem_values.specs.declared.cell_id.CellId.TheVariants as id
use Rattle.mem_rename.specs.declared.sides.Move.{Move}
use Rattle.mem_rename.specs.Logged.{rename_logged}
use Rattle.mem_rename.specs.Sights.{Sight, there_seen, moves_directory, meets_directory, goes_between}

-- a bucket's rows once a child has moved
abbrev pub rows_moved : Move → ℕ → ℕ → ℕ → FinMap name_cmp ℕ → FinMap name_cmp ℕ
rows_moved move child directory number rows =
    part_after directory (λ name. name_bucket name == number) (Moves move.directory.0 move.name move.to_directory.0 move.to_name child) rows

-- its rows that name directories: the old one goes, and the new one comes where the child is a directory
abbrev pub directories_moved : Move → Bool → ℕ → ℕ → ℕ → FinMap name_cmp ℕ → FinMap name_cmp ℕ
directories_moved move true child directory number rows = rows_moved move child directory number rows
directories_moved move false child directory number rows = part_without directory (λ name. name_bucket name == number) move.directory.0 move.name rows

-- where a directory stands: one that comes to another one there, one that is replaced nowhere, and any other where it did
abbrev pub stands_moved : Sight → Move → ℕ → ℕ → Option ℕ → Option ℕ
stands_moved seen move child directory stands =
    if goes_between seen move && (child == directory) then Some move.to_directory.0 else
    if meets_directory seen move && is_this directory (there_seen seen move) then None else
    stands

-- A bucket of a directory is as a rename that moves a child leaves it.
pub record IsMovedBucket (seen : Sight) (move : Move) (child directory number : ℕ) (before after : Bucket) : Type 0 where
  pub rows : after.rows ≡ rows_moved move child directory number before.rows
  pub directories : after.directories ≡ directories_moved move (moves_directory seen move) child directory number before.directories
  pub stands : number_of after.stands ≡ stands_moved seen move child directory (number_of before.stands)

-- A file is as such a rename leaves it: one name less where it was replaced, and the same bytes with the same marks.
pub record IsMovedFile (seen : Sight) (move : Move) (node : ℕ) (before after : FileCell) : Type 0 where
  pub links : after.links + (if not (meets_directory seen move) && is_this node (there_seen seen move) then 1 else 0) ≡ before.links
  pub file : after.file ≡ before.file

-- The lock has the stamp of the call where a directory came to another one.
abbrev pub IsMovedLock : Bool → Stamp → TreeLock → TreeLock → Type 0
IsMovedLock true stamp before after = after.moved ≡ Some stamp
IsMovedLock false stamp before after = after ≡ before

-- The own log has what the rename logs behind what it had.
pub record IsMovedPart (seen : Sight) (move : Move) (stamp : Stamp) (before after : PartCell) : Type 0 where
  pub log : IsAddedTo before.log (rename_logged seen move stamp.0) after.log
  pub made : after.made ≡ before.made

-- The value of each cell that a core holds is as a rename leaves it that moves a child with this stamp.
abbrev pub IsMovedCell : Sight → Move → ℕ → ℕ → Stamp → CellId → Cell → Cell → Type 0
IsMovedCell seen move core child stamp id.Lock (cell.Lock before) (cell.Lock after) = IsMovedLock (goes_between seen move) stamp before after
IsMovedCell seen move core child stamp (id.Bucket node number) (cell.Bucket before)
    (cell.Bucket after) = IsMovedBucket seen move child node.0 number before.value after.value
IsMovedCell seen move core child stamp (id.File node) (cell.File before) (cell.File after) = IsMovedFile seen move node.0 before.value after.value
IsMovedCell seen move core child stamp (id.Part part) (cell.Part before) (cell.Part after) = (part.0 ≡ core)
    × IsMovedPart seen move stamp before.value after.value
IsMovedCell seen move core child stamp which before after = ⊥
