use Rattle.std.proofs.Common.{◌≤◌, length}
use Rattle.fsync_values.specs.Renewing.{renewed_value}
use Rattle.fsync_values.proofs.Renewed.{IsRenewing}
use Rattle.fsync_values.proofs.renewing.renew.Given as goal

abbrev pub invariant-loop-at : goal.invariant-loop-at
invariant-loop-at l = record {
  renewing : IsRenewing (renewed_value l.renewal l.members l.fn.after.items) l.fn.after.items l.after.items l.nodes l.at l.initial.values.items
      l.values.items (length l.spares.items);
  within : l.at ≤ length l.nodes;
}

abbrev pub decreases-loop-at : goal.decreases-loop-at
decreases-loop-at l = l.at
