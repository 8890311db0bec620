use Rattle.cut_laws.proofs.NewNodes.{births_are_new_nodes as law}
use Rattle.cut_laws.proofs.laws.inodes.births_are_new_nodes.Goals as goal

pub returns : goal.returns
returns c = law
