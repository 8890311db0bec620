use Rattle.log_copy.proofs.Growing.{NamesSoFar, left_after}
use Rattle.log_copy.proofs.copying.copy_naming.Given as goal

abbrev pub invariant-loop-dir : goal.invariant-loop-dir
invariant-loop-dir l = NamesSoFar l.part l.nodes l.after l.copy

abbrev pub decreases-loop-dir : goal.decreases-loop-dir
decreases-loop-dir l = left_after l.after
