use Rattle.std.proofs.Common.{◌≡◌, ◌++◌, take, filter_map}
use Rattle.disk_change.specs.Links.{linked_by}
use Rattle.disk_change.proofs.links.push_rows.Given as goal

abbrev pub invariant-loop-row : goal.invariant-loop-row
invariant-loop-row l = record {
  coming : l.coming.items ≡ l.fn.coming.items ++ filter_map (λ row. linked_by l.directories l.fn.one.node.0 row.after) (take l.row-index l.fn.one.net.items);
  going : l.going.items ≡ l.fn.going.items ++ filter_map (λ row. linked_by l.directories l.fn.one.node.0 row.before) (take l.row-index l.fn.one.net.items);
}
