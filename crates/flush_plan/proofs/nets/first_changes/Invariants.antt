use Rattle.std.proofs.Common.{◌≤◌, length, drop, reverse}
use Rattle.absorb.specs.Last.{lent, AreLast}
use Rattle.flush_plan.proofs.nets.first_changes.Given as goal

abbrev pub invariant-loop-left : goal.invariant-loop-left
invariant-loop-left l = record {
  within : l.left ≤ length l.changes;
  first : AreLast (reverse (drop l.left l.changes)) (lent l.first.entries);
}

abbrev pub decreases-loop-left : goal.decreases-loop-left
decreases-loop-left l = l.left
