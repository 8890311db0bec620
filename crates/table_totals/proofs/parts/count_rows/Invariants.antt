use Rattle.std.proofs.Common.{◌≡◌, ◌≤◌, ◌*◌}
use Rattle.std.specs.FinMap.{len}
use Rattle.tree_laws.specs.Tree.{bucket_rows}
use Rattle.mem_calls.specs.Sums.{sum_until}
use Rattle.table_totals.specs.Seen.{MayCount, SawNoCall, SawOn, tree_seen}
use Rattle.table_totals.proofs.parts.count_rows.Given as goal

-- where no call came, the rows are those of the buckets so far
abbrev pub invariant-loop-number : goal.invariant-loop-number
invariant-loop-number g l = record {
  may : MayCount l.shared l.core;
  saw : SawOn l.fn.core l.core;
  rows : SawNoCall l.fn.core l.core → l.rows ≡ sum_until l.number (λ b. len (bucket_rows l.node.0 b (tree_seen l.core).rows));
  few : l.rows ≤ 4096 * l.number;
}
