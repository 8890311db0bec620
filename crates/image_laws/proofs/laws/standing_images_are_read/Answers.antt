use Rattle.image_laws.proofs.WholeImages.{standing_images_are_read as law}
use Rattle.image_laws.proofs.laws.standing_images_are_read.Goals as goal

pub returns : goal.returns
returns c = law
