use Rattle.image_laws.proofs.Places.{blocks_are_kept_or_rewritten as law}
use Rattle.image_laws.proofs.laws.blocks_are_kept_or_rewritten.Goals as goal

pub returns : goal.returns
returns c = law
