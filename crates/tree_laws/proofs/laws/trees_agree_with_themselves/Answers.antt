use Rattle.tree_laws.proofs.Touches.{trees_agree_with_themselves as law}
use Rattle.tree_laws.proofs.laws.trees_agree_with_themselves.Goals as goal

pub returns : goal.returns
returns c = law
