use Rattle.image_laws.proofs.Ranks.{ranks_take_free_blocks as law}
use Rattle.image_laws.proofs.laws.ranks_take_free_blocks.Goals as goal

pub returns : goal.returns
returns c = law
