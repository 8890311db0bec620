use Rattle.std.proofs.Common.{◌≡◌, ◌++◌, take, filter_map}
use Rattle.tree_laws.specs.NameRow.{number_of}
use Rattle.flush_plan.proofs.names.push_rows.Given as goal

abbrev pub invariant-loop-row : goal.invariant-loop-row
invariant-loop-row l = record {
  coming : l.coming.items ≡ l.fn.coming.items ++ filter_map (λ row. number_of row.after) (take l.row-index l.fn.one.net.items);
  going : l.going.items ≡ l.fn.going.items ++ filter_map (λ row. number_of row.before) (take l.row-index l.fn.one.net.items);
}
