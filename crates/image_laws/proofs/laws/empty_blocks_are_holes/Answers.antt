use Rattle.image_laws.proofs.BlockRows.{empty_blocks_are_holes as law}
use Rattle.image_laws.proofs.laws.empty_blocks_are_holes.Goals as goal

pub returns : goal.returns
returns c = law
