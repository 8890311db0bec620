use Rattle.cut_laws.proofs.WholeHistory.{cut_trees_grow as law}
use Rattle.cut_laws.proofs.laws.growth.cut_trees_grow.Goals as goal

pub returns : goal.returns
returns c = law
