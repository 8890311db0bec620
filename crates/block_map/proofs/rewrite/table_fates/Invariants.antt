use Rattle.std.proofs.Common.{◌≡◌, ℕ, ◌<◌, get_or, length}
use Rattle.block_map.specs.declared.rewrite.TableFate.{TableFate}
use Rattle.block_map.specs.Remap.{rewrite_of, table_fate}
use Rattle.block_map.proofs.rewrite.table_fates.Given as goal

abbrev pub invariant-loop-k : goal.invariant-loop-k
invariant-loop-k l = record {
  count : length l.fates ≡ 16;
  each : (j : ℕ) (d : TableFate) → j < l.k → get_or l.fates j d ≡ table_fate (rewrite_of l.inode l.tables.items l.changed.items) j;
}
