use Rattle.image_check.specs.Climbs.{named_directory}
use Rattle.image_check.specs.Writes.{Writes}
use Rattle.image_check.proofs.climb.hold.Given as goal

abbrev pub invariant-loop-row : goal.invariant-loop-row
invariant-loop-row l = Writes l.initial.above l.above 0 l.directory (named_directory l.rows) l.row-index
