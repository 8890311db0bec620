use Rattle.std.proofs.Common.{◌≤◌, length, List}
use Rattle.sfs_base.specs.declared.numbers.NodeId.{NodeId}
use Rattle.mem_values.specs.declared.cell.Cell.{Cell}
use Rattle.fsync_values.specs.Lending.{IsLent}
use Rattle.fsync_values.proofs.Lent.{IsRestored}
use Rattle.fsync_values.proofs.lending.restore.Given as goal

abbrev pub invariant-loop-at : goal.invariant-loop-at
invariant-loop-at l = record {
  restored : (nodes : List NodeId) (was : List Cell) → IsLent nodes was l.initial.values.items l.fn.old.items
      → IsRestored l.at nodes was l.values.items l.entries.items;
  within : l.at ≤ length l.values.items;
}

abbrev pub decreases-loop-at : goal.decreases-loop-at
decreases-loop-at l = l.at
