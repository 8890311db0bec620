use Rattle.catch_laws.proofs.Caught.{caught_are_gathered as law}
use Rattle.catch_laws.proofs.laws.caught_are_gathered.Goals as goal

pub returns : goal.returns
returns c = law
