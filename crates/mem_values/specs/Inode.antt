-- Whether a file has an inode, as its core saw it.
use Rattle.std.specs.Prelude.{◌≡◌, ◌==◌, ℕ, Bool, false, Option, Some, None}
use Rattle.sfs_base.specs.declared.numbers.Kind.TheVariants.{File}
use Rattle.sfs_image.specs.Slot.{kind_byte}
use Rattle.disk_nodes.specs.OldKept.{OldKept}
use Rattle.mem_values.specs.Start.{FileHand}
use Rattle.mem_values.specs.declared.cell.Cell.{Cell}
use Rattle.mem_values.specs.declared.cell.Cell.TheVariants as cell
use Rattle.mem_values.specs.Stands.{StandsAt}

-- whether what the disk has of a node, if anything, is the record of a file
abbrev pub is_file_kept : Option OldKept → Bool
is_file_kept None = false
is_file_kept (Some old) = old.kept.inode.kind == kind_byte File

-- whether a value has what the disk has of a file
abbrev pub has_inode_kept : Cell → Bool
has_inode_kept (cell.Pending pending) = is_file_kept pending.value.old
has_inode_kept _ = false

-- A core has seen more of the history, and that a value stands for it at a place, which is a file's that has an inode or not. It is as before otherwise.
pub record SawInode (given : ℕ → Option OldKept) (place : ℕ) (before : FileHand) (found : Bool) (after : FileHand) : Type 0 where
  pub frame : record after { view = before.view } ≡ before
  pub view : record after.view { seen = before.view.seen } ≡ before.view
  pub value : (value : Cell) × StandsAt given before.view.first after.view.seen place value × (found ≡ has_inode_kept value)
