use Rattle.std.proofs.Common.{◌≡◌, ℕ, ◌<◌, false}
use Rattle.std.specs.List.{list_any}
use Rattle.disk_tree.specs.Rows.{rows_of_inode}
use Rattle.image_check.specs.Checks.{is_elsewhere}
use Rattle.image_check.proofs.places.some_row_is_elsewhere.Given as goal

abbrev pub invariant-loop-place : goal.invariant-loop-place
invariant-loop-place l = (k : ℕ) → k < l.place → list_any (is_elsewhere l.holders.items k) (rows_of_inode l.rows k) ≡ false
