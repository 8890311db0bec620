use Rattle.image_laws.proofs.WholeImages.{trees_of_images_are_mounted as law}
use Rattle.image_laws.proofs.laws.trees_of_images_are_mounted.Goals as goal

pub returns : goal.returns
returns c = law
