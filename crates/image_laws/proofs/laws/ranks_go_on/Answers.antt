use Rattle.image_laws.proofs.Ranks.{ranks_go_on as law}
use Rattle.image_laws.proofs.laws.ranks_go_on.Goals as goal

pub returns : goal.returns
returns c = law
