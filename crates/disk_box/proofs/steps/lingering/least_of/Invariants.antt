use Rattle.disk_box.specs.Oldest.{FoundLeast}
use Rattle.disk_box.proofs.steps.lingering.least_of.Given as goal

abbrev pub invariant-loop-k : goal.invariant-loop-k
invariant-loop-k l = FoundLeast l.slots l.k l.least
