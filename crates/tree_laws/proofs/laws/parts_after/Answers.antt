use Rattle.tree_laws.proofs.Parts.{parts_after as law}
use Rattle.tree_laws.proofs.laws.parts_after.Goals as goal

pub returns : goal.returns
returns c = law
