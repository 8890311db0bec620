use Rattle.image_laws.proofs.Standing.{standing_images_show as law}
use Rattle.image_laws.proofs.laws.standing_images_show.Goals as goal

pub returns : goal.returns
returns c = law
