use Rattle.tree_laws.proofs.Touches.{touches_are_named as law}
use Rattle.tree_laws.proofs.laws.touches_are_named.Goals as goal

pub returns : goal.returns
returns c = law
