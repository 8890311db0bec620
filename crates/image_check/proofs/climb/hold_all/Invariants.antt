use Rattle.std.proofs.Common.{◌≡◌, ℕ, ◌≤◌, ◌-◌, length}
use Rattle.std.specs.Prelude.{slice_index}
use Rattle.image_check.specs.Climbs.{HasHolders}
use Rattle.image_check.proofs.climb.hold_all.Given as goal

abbrev pub invariant-loop-place : goal.invariant-loop-place
invariant-loop-place l = record {
  size : length l.above ≡ length l.rows;
  low : (i : ℕ) → slice_index l.above i ≤ length l.rows - 1;
  holders : HasHolders l.rows l.place l.above;
}
