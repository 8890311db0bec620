use Rattle.std.proofs.Common.{◌≢◌, ℕ, ◌<◌, ◌≤◌, None, length, slice_index_or}
use Rattle.recovery.proofs.homing.neighbours_end.Given as goal

abbrev pub invariant-loop-place : goal.invariant-loop-place
invariant-loop-place l = record {
  within : l.end ≤ length l.stamps;
  further : l.first < l.end;
  from : l.first ≤ l.place;
  stamped : (i : ℕ) → l.first ≤ i → i < l.place → slice_index_or l.stamps i None ≢ None;
}
