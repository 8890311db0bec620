use Rattle.std.proofs.Common.{◌≡◌, ℕ, None, length}
use Rattle.std.specs.Prelude.{slice_index_or}
use Rattle.recovery.proofs.settled.no_stamps.Given as goal

abbrev pub invariant-loop-i : goal.invariant-loop-i
invariant-loop-i l = record {
  count : length l.stamps.items ≡ l.i;
  none : (i : ℕ) → slice_index_or l.stamps.items i None ≡ None;
}
