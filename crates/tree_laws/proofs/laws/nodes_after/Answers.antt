use Rattle.tree_laws.proofs.Parts.{nodes_after as law}
use Rattle.tree_laws.proofs.laws.nodes_after.Goals as goal

pub returns : goal.returns
returns c = law
