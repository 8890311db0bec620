use Rattle.test_tree.proofs.Trials.{IsTrial}
use Rattle.test_tree.proofs.shapes.first_tree.Given as goal

abbrev pub invariant-loop-asked : goal.invariant-loop-asked
invariant-loop-asked g l = IsTrial l.tree
