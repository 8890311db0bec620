use Rattle.std.proofs.Common.{◌≡◌, ℕ, ◌<◌, false}
use Rattle.image_check.specs.Checks.{is_unplaced}
use Rattle.image_check.proofs.places.some_is_unplaced.Given as goal

abbrev pub invariant-loop-place : goal.invariant-loop-place
invariant-loop-place l = (k : ℕ) → k < l.place → is_unplaced l.inodes l.rows l.holders.items k ≡ false
