use Rattle.std.proofs.Common.{◌≡◌, ◌<◌, ◌≤◌, ◌+◌, All, filter_map}
use Rattle.std.specs.List.{range_with_len}
use Rattle.block_map.specs.Remap.{rewrite_of, table_remapped}
use Rattle.block_map.proofs.remapping.tables_after.Given as goal

abbrev pub invariant-loop-k : goal.invariant-loop-k
invariant-loop-k l = record {
  items : l.after.items ≡ filter_map (table_remapped (rewrite_of l.inode l.tables.items l.changed.items) l.fresh l.tables.items) (range_with_len 0 l.k);
  below : All (λ t. t.place < l.k) l.after.items;
  spare : 16 ≤ l.after.spare + l.k;
}
