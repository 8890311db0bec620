use Rattle.std.proofs.Common.{◌≡◌, ℕ, ◌<◌, get_or, length}
use Rattle.block_map.specs.Remap.{rewrite_of, pointer_remapped}
use Rattle.block_map.proofs.remapping.direct_after.Given as goal

abbrev pub invariant-loop-n : goal.invariant-loop-n
invariant-loop-n l = record {
  count : length l.direct ≡ 108;
  each : (j d : ℕ) → j < l.n → get_or l.direct j d ≡ pointer_remapped (rewrite_of l.inode l.tables.items l.changed.items) l.fresh j;
}
