-- Which blocks of a file its changes touch.
use Rattle.std.specs.Prelude.{◌≡◌, ℕ, ◌<◌, ◌≤◌, true, List, length}
use Rattle.mem_files.specs.File.{write_touches, trunc_touches, is_touched}
use Rattle.mem_files.specs.declared.touched.Touched.{Touched}
use Rattle.tree_laws.specs.declared.history.Entry.{Entry}
use Rattle.tree_laws.specs.Changes.{FileChange, edits_of, bytes_at}
use Rattle.tree_laws.specs.Effect.{Edit, Puts, Resizes}
use Rattle.tree_laws.specs.Tree.{TreeState}
use Rattle.cut_laws.specs.Rules.{IsOneOf}

-- the blocks that an edit touches in a file of so many bytes
abbrev pub touched_by : Edit → ℕ → Touched
touched_by (Puts at from) before = write_touches at (length from)
touched_by (Resizes size) before = trunc_touches size before

-- A change of a file, at a stamp from one to below another, touches a block of the bytes that it finds.
pub record IsTouchedBetween (first : TreeState) (history : List Entry) (file from to block : ℕ) : Type 0 where
  pub change : FileChange
  pub among : IsOneOf (edits_of first history) change
  pub own : change.file ≡ file
  pub since : from ≤ change.stamp
  pub below : change.stamp < to
  pub touches : is_touched (touched_by change.edit (length (bytes_at first history file change.stamp))) block ≡ true
