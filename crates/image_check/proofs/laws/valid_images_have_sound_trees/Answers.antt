use Rattle.image_check.proofs.Faultless.{valid_images_have_sound_trees as law}
use Rattle.image_check.proofs.laws.valid_images_have_sound_trees.Goals as goal

pub returns : goal.returns
returns c = law
