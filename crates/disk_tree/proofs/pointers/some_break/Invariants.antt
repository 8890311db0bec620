use Rattle.std.proofs.Common.{◌≡◌, ℕ, ◌+◌, ◌*◌, ◌<◌, true}
use Rattle.std.specs.Prelude.{slice_index}
use Rattle.disk_tree.specs.Pointers.{points_well}
use Rattle.disk_tree.proofs.pointers.some_break.Given as goal

abbrev pub invariant-loop-place : goal.invariant-loop-place
invariant-loop-place l = (k : ℕ) → k < l.place → points_well l.layout l.size (slice_index l.pointers k) (l.first + l.step * k) ≡ true
