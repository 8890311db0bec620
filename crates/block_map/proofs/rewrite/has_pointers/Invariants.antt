use Rattle.std.proofs.Common.{◌≡◌, ℕ, ◌<◌, ◌+◌, false}
use Rattle.image_laws.specs.Need.{has_pointer, first_block}
use Rattle.block_map.specs.Remap.{rewrite_of}
use Rattle.block_map.proofs.rewrite.has_pointers.Given as goal

abbrev pub invariant-loop-entry : goal.invariant-loop-entry
invariant-loop-entry l = (j : ℕ) → j < l.entry → has_pointer (rewrite_of l.inode l.tables.items l.changed.items) (first_block l.k + j) ≡ false
