use Rattle.image_laws.proofs.Places.{nets_keep_places as law}
use Rattle.image_laws.proofs.laws.nets_keep_places.Goals as goal

pub returns : goal.returns
returns c = law
