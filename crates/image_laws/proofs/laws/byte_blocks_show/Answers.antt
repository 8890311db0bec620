use Rattle.image_laws.proofs.BlockRows.{byte_blocks_show as law}
use Rattle.image_laws.proofs.laws.byte_blocks_show.Goals as goal

pub returns : goal.returns
returns c = law
