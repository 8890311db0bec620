use Rattle.image_check.proofs.Faultless.{valid_images_are_faultless as law}
use Rattle.image_check.proofs.laws.valid_images_are_faultless.Goals as goal

pub returns : goal.returns
returns c = law
