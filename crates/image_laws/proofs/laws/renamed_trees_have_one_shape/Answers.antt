use Rattle.image_laws.proofs.Shapes.{renamed_trees_have_one_shape as law}
use Rattle.image_laws.proofs.laws.renamed_trees_have_one_shape.Goals as goal

pub returns : goal.returns
returns c = law
