use Rattle.std.proofs.Common.{◌≡◌, ◌++◌, filter_map}
use Rattle.flush_plan.specs.Ends.{lent_between}
use Rattle.flush_plan.specs.Net.{HasGoodNames}
use Rattle.flush_plan.proofs.nets.rows_between.Given as goal

abbrev pub invariant-loop-change : goal.invariant-loop-change
invariant-loop-change l = record {
  rows : l.net.items ++ filter_map (lent_between l.first) l.change-iterator ≡ filter_map (lent_between l.first) l.last.entries;
  names : HasGoodNames l.net.items;
}
