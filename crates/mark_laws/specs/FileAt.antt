-- When a file in memory is that of a history, and what an edit makes of it.
use Rattle.std.specs.Prelude.{◌≡◌, ◌↔◌, ℕ, true, List, length, Some, if◌then◌else◌}
use Rattle.sfs_base.specs.declared.numbers.Stamp.{Stamp}
use Rattle.mem_files.specs.File.{File, mark_of, is_touched}
use Rattle.tree_laws.specs.declared.history.Entry.{Entry}
use Rattle.tree_laws.specs.Changes.{bytes_at}
use Rattle.tree_laws.specs.Effect.{Edit, edited}
use Rattle.tree_laws.specs.Tree.{TreeState}
use Rattle.flush_plan.specs.Touched.{is_marked_from}
use Rattle.mark_laws.specs.Touched.{touched_by, IsTouchedBetween}

-- A file in memory is that of a history at a stamp: it has its bytes then, and a block's mark is at or above a stamp exactly where a change
-- since that stamp touches it.
pub record IsFileAt (first : TreeState) (history : List Entry) (node stamp : ℕ) (file : File) : Type 0 where
  pub bytes : file.bytes ≡ bytes_at first history node stamp
  pub marks : (from block : ℕ) → (is_marked_from from file block ≡ true) ↔ IsTouchedBetween first history node from stamp block

-- A file in memory was edited at a stamp: its bytes are edited, and of its blocks those that the edit touches have the stamp as their mark.
pub record IsMarkedEdit (edit : Edit) (stamp : Stamp) (old new : File) : Type 0 where
  pub bytes : new.bytes ≡ edited edit old.bytes
  pub marks : (block : ℕ) → mark_of new block ≡ (if is_touched (touched_by edit (length old.bytes)) block then Some stamp else mark_of old block)
