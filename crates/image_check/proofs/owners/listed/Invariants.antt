use Rattle.std.proofs.Common.{◌≡◌}
use Rattle.image_check.specs.Gathered.{owners_in}
use Rattle.image_check.proofs.owners.listed.Given as goal

abbrev pub invariant-loop-block : goal.invariant-loop-block
invariant-loop-block l = l.list.items ≡ owners_in l.owners l.block
