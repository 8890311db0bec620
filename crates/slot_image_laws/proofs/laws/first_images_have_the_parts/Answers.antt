use Rattle.slot_image_laws.proofs.Held.{first_images_have_the_parts as law}
use Rattle.slot_image_laws.proofs.laws.first_images_have_the_parts.Goals as goal

pub returns : goal.returns
returns c = law
