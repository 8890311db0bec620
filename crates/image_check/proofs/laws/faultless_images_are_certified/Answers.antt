use Rattle.image_check.proofs.Certified.{faultless_images_are_certified as law}
use Rattle.image_check.proofs.laws.faultless_images_are_certified.Goals as goal

pub returns : goal.returns
returns c = law
