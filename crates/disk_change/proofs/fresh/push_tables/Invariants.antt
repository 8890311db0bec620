use Rattle.std.proofs.Common.{◌≡◌, ◌++◌, [], filter_map}
use Rattle.std.specs.List.{range_with_len}
use Rattle.disk_change.specs.Fresh.{table_of_place}
use Rattle.disk_change.specs.Parts.{built_with}
use Rattle.disk_change.proofs.fresh.push_tables.Given as goal

abbrev pub invariant-loop-k : goal.invariant-loop-k
invariant-loop-k l = l.fresh.items ≡ l.fn.fresh.items ++ filter_map (table_of_place (built_with [] l.built)) (range_with_len 0 l.k)
