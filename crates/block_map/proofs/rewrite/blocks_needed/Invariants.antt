use Rattle.std.proofs.Common.{◌≡◌, ◌+◌}
use Rattle.image_laws.specs.Need.{takes_place, rank}
use Rattle.sfs_image.specs.Seen.{FILE_BLOCKS}
use Rattle.block_map.specs.Remap.{rewrite_of}
use Rattle.block_map.proofs.rewrite.blocks_needed.Given as goal

abbrev pub invariant-loop-k : goal.invariant-loop-k
invariant-loop-k l = l.count ≡ rank (takes_place (rewrite_of l.inode l.tables.items l.changed.items)) (FILE_BLOCKS + l.k)
