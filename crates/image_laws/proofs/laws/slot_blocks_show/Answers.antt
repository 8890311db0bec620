use Rattle.image_laws.proofs.BlockRows.{slot_blocks_show as law}
use Rattle.image_laws.proofs.laws.slot_blocks_show.Goals as goal

pub returns : goal.returns
returns c = law
