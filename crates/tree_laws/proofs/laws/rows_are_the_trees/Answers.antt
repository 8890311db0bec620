use Rattle.tree_laws.proofs.Histories.{rows_at-tree_after as law}
use Rattle.tree_laws.proofs.laws.rows_are_the_trees.Goals as goal

pub returns : goal.returns
returns c = law
