use Rattle.std.proofs.Common.{◌<◌, ◌≤◌, ℕ, get_or, length}
use Rattle.tree_laws.specs.declared.changes.Change.{Change}
use Rattle.mem_cells.specs.Log.{log_place}
use Rattle.mem_cells.specs.Part.{changes_kept}
use Rattle.test_scripts.proofs.logs.comes_last.Given as goal

abbrev pub invariant-loop-place : goal.invariant-loop-place
invariant-loop-place l =
    (k : ℕ) (d : Change) → k < l.place → k < length (changes_kept l.part l.one.dir.0)
    → log_place (get_or (changes_kept l.part l.one.dir.0) k d) ≤ log_place l.one
