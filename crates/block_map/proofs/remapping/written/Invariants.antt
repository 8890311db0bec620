use Rattle.std.proofs.Common.{◌≡◌, ℕ, ◌<◌, ◌+◌, get_or, length}
use Rattle.image_laws.specs.Need.{first_block}
use Rattle.block_map.specs.Remap.{rewrite_of, pointer_remapped}
use Rattle.block_map.proofs.remapping.written.Given as goal

abbrev pub invariant-loop-entry : goal.invariant-loop-entry
invariant-loop-entry l = record {
  place : l.table.place ≡ l.k;
  count : length l.table.pointers ≡ 1024;
  each : (j d : ℕ) → j < l.entry
      → get_or l.table.pointers j d ≡ pointer_remapped (rewrite_of l.inode l.tables.items l.changed.items) l.fresh (first_block l.k + j);
}
