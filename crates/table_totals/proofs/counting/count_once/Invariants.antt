use Rattle.std.proofs.Common.{◌≡◌, ◌≤◌, ◌*◌}
use Rattle.tree_laws.specs.Tree.{row_count}
use Rattle.tree_totals.specs.Totals.{LONGEST_FILE, live_bytes, sum_below}
use Rattle.table_totals.specs.Seen.{MayCount, SawNoCall, SawOn, tree_seen}
use Rattle.table_totals.proofs.counting.count_once.Given as goal

-- where no call came, the rows and the bytes are those of the nodes so far
abbrev pub invariant-loop-number : goal.invariant-loop-number
invariant-loop-number g l = record {
  may : MayCount l.shared l.core;
  saw : SawOn l.fn.core l.core;
  rows : SawNoCall l.fn.core l.core → l.rows ≡ sum_below (row_count (tree_seen l.core)) l.number;
  bytes : SawNoCall l.fn.core l.core → l.bytes ≡ sum_below (live_bytes (tree_seen l.core)) l.number;
  few_rows : l.rows ≤ 32768 * l.number;
  few_bytes : l.bytes ≤ LONGEST_FILE * l.number;
}
