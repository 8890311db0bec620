use Rattle.std.proofs.Common.{◌+◌, ◌*◌, None, Some}
use Rattle.block_map.specs.Kept.{pointer_kept}
use Rattle.image_check.specs.Gathered.{pointed}
use Rattle.image_check.specs.Writes.{Writes}
use Rattle.image_check.proofs.owners.own.Given as goal

abbrev pub invariant-loop-place : goal.invariant-loop-place
invariant-loop-place l = Writes l.fn.owners l.owners None (Some l.inode) (λ place. pointed (pointer_kept l.meta l.tables.items place)) (108 + 1024 * l.place)
