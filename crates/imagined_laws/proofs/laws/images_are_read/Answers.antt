use Rattle.imagined_laws.proofs.Parts.{images_are_read as law}
use Rattle.imagined_laws.proofs.laws.images_are_read.Goals as goal

pub returns : goal.returns
returns c = law
