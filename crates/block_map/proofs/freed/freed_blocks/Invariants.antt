use Rattle.std.proofs.Common.{◌≡◌, ◌++◌, take}
use Rattle.std.specs.Prelude.{slice_index}
use Rattle.std.specs.List.{range_with_len, flat_map}
use Rattle.block_map.specs.Kept.{pointer_kept}
use Rattle.block_map.specs.Remap.{rewrite_of, there, data_left, table_left, table_fate}
use Rattle.block_map.proofs.freed.freed_blocks.Given as goal

abbrev pub invariant-loop-one : goal.invariant-loop-one
invariant-loop-one l = l.freed.items ≡ flat_map (λ one. there (data_left (pointer_kept l.inode l.tables.items) one)) (take l.one-index l.changed.items)

abbrev pub invariant-loop-k : goal.invariant-loop-k
invariant-loop-k l = l.freed.items ≡ flat_map (λ one. there (data_left (pointer_kept l.inode l.tables.items) one)) l.changed.items
    ++ flat_map (λ k. there (table_left (table_fate (rewrite_of l.inode l.tables.items l.changed.items) k) (slice_index l.inode.indirect k)))
    (range_with_len 0 l.k)
