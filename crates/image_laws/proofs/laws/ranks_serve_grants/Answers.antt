use Rattle.image_laws.proofs.Ranks.{ranks_serve_grants as law}
use Rattle.image_laws.proofs.laws.ranks_serve_grants.Goals as goal

pub returns : goal.returns
returns c = law
