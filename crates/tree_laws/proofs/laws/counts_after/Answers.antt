use Rattle.tree_laws.proofs.Parts.{counts_after as law}
use Rattle.tree_laws.proofs.laws.counts_after.Goals as goal

pub returns : goal.returns
returns c = law
