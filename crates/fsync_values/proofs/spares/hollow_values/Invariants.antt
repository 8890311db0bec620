use Rattle.std.specs.Prelude.{vec_capacity}
use Rattle.std.proofs.Common.{◌≤◌, ◌-◌, length}
use Rattle.fsync_values.proofs.spares.hollow_values.Given as goal

abbrev pub invariant-loop-values : goal.invariant-loop-values
invariant-loop-values l = record {
  within : length l.values.items ≤ l.count;
  room : l.count ≤ vec_capacity l.values;
}

abbrev pub decreases-loop-values : goal.decreases-loop-values
decreases-loop-values l = l.count - length l.values.items
