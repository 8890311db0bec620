use Rattle.std.proofs.Common.{◌≡◌, ◌≤◌, ◌+◌, ◌*◌}
use Rattle.mem_calls.specs.Sums.{sum_until, rows_held, directories_held}
use Rattle.mem_calls.proofs.status.directory_counts.Given as goal

abbrev pub invariant-loop-number : goal.invariant-loop-number
invariant-loop-number l = record {
  links : l.links ≡ 2 + sum_until l.number (directories_held l.nodes l.core.held l.node);
  size : l.size ≡ sum_until l.number (rows_held l.nodes l.core.held l.node);
  few : l.links ≤ 2 + 4096 * l.number;
  small : l.size ≤ 4096 * l.number;
}
