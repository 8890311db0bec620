use Rattle.std.proofs.Common.{◌≡◌, ℕ, ◌<◌, get_or, false}
use Rattle.block_map.specs.declared.changed.ChangedBlock.{ChangedBlock}
use Rattle.block_map.specs.Kept.{pointer_kept}
use Rattle.block_map.specs.Remap.{touches_table}
use Rattle.block_map.proofs.rewrite.changes_pointers.Given as goal

abbrev pub invariant-loop-one : goal.invariant-loop-one
invariant-loop-one l =
    (i : ℕ) (d : ChangedBlock) → i < l.one-index → touches_table (pointer_kept l.inode l.tables.items) l.k (get_or l.changed.items i d) ≡ false
