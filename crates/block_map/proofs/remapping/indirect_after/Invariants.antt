use Rattle.std.proofs.Common.{◌≡◌, ℕ, ◌<◌, ◌+◌, get_or, length}
use Rattle.sfs_image.specs.Seen.{FILE_BLOCKS}
use Rattle.image_laws.specs.Need.{takes_place, rank}
use Rattle.block_map.specs.Remap.{rewrite_of, pointer_remapped}
use Rattle.block_map.proofs.remapping.indirect_after.Given as goal

abbrev pub invariant-loop-k : goal.invariant-loop-k
invariant-loop-k l = record {
  taken : l.taken ≡ rank (takes_place (rewrite_of l.inode l.tables.items l.changed.items)) (FILE_BLOCKS + l.k);
  count : length l.indirect ≡ 16;
  each : (j d : ℕ) → j < l.k → get_or l.indirect j d ≡ pointer_remapped (rewrite_of l.inode l.tables.items l.changed.items) l.fresh (FILE_BLOCKS + j);
}
