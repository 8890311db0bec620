use Rattle.tree_laws.proofs.ShapeWorked.{worked as law}
use Rattle.tree_laws.proofs.laws.shape_is_as_worked.Goals as goal

pub returns : goal.returns
returns c = law
