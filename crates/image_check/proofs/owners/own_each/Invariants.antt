use Rattle.std.proofs.Common.{None, Some}
use Rattle.std.specs.Prelude.{slice_index}
use Rattle.image_check.specs.Gathered.{pointed}
use Rattle.image_check.specs.Writes.{Writes}
use Rattle.image_check.proofs.owners.own_each.Given as goal

abbrev pub invariant-loop-pointer : goal.invariant-loop-pointer
invariant-loop-pointer l = Writes l.initial.owners l.owners None (Some l.inode) (λ k. pointed (slice_index l.pointers k)) l.pointer-index
