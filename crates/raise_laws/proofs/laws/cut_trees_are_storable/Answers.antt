use Rattle.raise_laws.proofs.Next.{cut_trees_are_storable as law}
use Rattle.raise_laws.proofs.laws.cut_trees_are_storable.Goals as goal

pub returns : goal.returns
returns c = law
