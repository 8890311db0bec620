-- Edits of a file's bytes.
use Rattle.std.specs.Prelude.{◌≡◌, ℕ, ◌+◌, ◌≤◌, ◌==◌, Bool, false, length, nat_lt}
use Rattle.sfs_base.specs.declared.numbers.NodeId.{NodeId}
use Rattle.tree_laws.specs.declared.call.Call.{Call}
use Rattle.tree_laws.specs.declared.call.Call.TheVariants as call
use Rattle.tree_laws.specs.Effect.{Edit, Puts, Resizes, edited}
use Rattle.tree_laws.specs.Verdict.{LARGEST_FILE}
use Rattle.mem_files.specs.File.{mark_of, room}
use Rattle.mem_files.specs.declared.touched.Touched.{Touched}
use Rattle.mem_values.specs.declared.cell.FileCell.{FileCell}
use Rattle.mem_values.specs.Logs.{edit_touches}
use Rattle.mem_calls.specs.declared.edit.FileEdit.{FileEdit}
use Rattle.mem_calls.specs.declared.edit.FileEdit.TheVariants.{Put, Resize}

-- what an edit does to the bytes
abbrev pub edit_of : FileEdit → Edit
edit_of (Put at bytes) = Puts at bytes
edit_of (Resize size) = Resizes size

-- the call that asks for it
abbrev pub edit_call : NodeId → FileEdit → Call
edit_call file (Put at bytes) = call.Write file at bytes
edit_call file (Resize size) = call.Trunc file size

-- whether it puts no bytes
abbrev pub puts_none : FileEdit → Bool
puts_none (Put at bytes) = length bytes == 0
puts_none (Resize size) = false

-- whether it would end past the largest file
abbrev pub is_too_big : FileEdit → Bool
is_too_big (Put at bytes) = nat_lt LARGEST_FILE (at + length bytes)
is_too_big (Resize size) = nat_lt LARGEST_FILE size

-- A file's bytes are edited, and there is room for the marks of the blocks that this touched; links and marks stay.
pub record IsEdited (before : FileCell) (edit : FileEdit) (touched : Touched) (after : FileCell) : Type 0 where
  pub links : after.links ≡ before.links
  pub bytes : after.file.bytes ≡ edited (edit_of edit) before.file.bytes
  pub touches : touched ≡ edit_touches (edit_of edit) (length before.file.bytes)
  pub marks : (block : ℕ) → mark_of after.file block ≡ mark_of before.file block
  pub room : touched.end ≤ room after.file
