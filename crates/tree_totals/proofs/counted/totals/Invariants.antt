use Rattle.std.proofs.Common.{◌≡◌, ◌-◌, ◌*◌, ◌≤◌}
use Rattle.tree_laws.specs.Least.{first_behind}
use Rattle.tree_laws.specs.NameRow.{number_of}
use Rattle.tree_totals.specs.Totals.{LONGEST_FILE, NUMBERS, live_bytes, rows_in, sum_below}
use Rattle.tree_totals.proofs.counted.totals.Given as goal

-- what the numbers so far have
abbrev pub invariant-loop-node : goal.invariant-loop-node
invariant-loop-node l = record {
  rows : l.rows ≡ sum_below (rows_in l.tree) (first_behind (number_of l.after));
  bytes : l.bytes ≡ sum_below (live_bytes l.tree) (first_behind (number_of l.after));
  few_rows : l.rows ≤ first_behind (number_of l.after) * 4294967296;
  few_bytes : l.bytes ≤ first_behind (number_of l.after) * LONGEST_FILE;
  within : first_behind (number_of l.after) ≤ 4294967296;
}

abbrev pub decreases-loop-node : goal.decreases-loop-node
decreases-loop-node l = NUMBERS - first_behind (number_of l.after)
