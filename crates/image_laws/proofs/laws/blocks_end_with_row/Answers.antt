use Rattle.image_laws.proofs.LastBlock.{blocks_end_with_row as law}
use Rattle.image_laws.proofs.laws.blocks_end_with_row.Goals as goal

pub returns : goal.returns
returns c = law
