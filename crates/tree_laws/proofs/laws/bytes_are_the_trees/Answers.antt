use Rattle.tree_laws.proofs.FileHistories.{bytes_at-tree_after as law}
use Rattle.tree_laws.proofs.laws.bytes_are_the_trees.Goals as goal

pub returns : goal.returns
returns c = law
