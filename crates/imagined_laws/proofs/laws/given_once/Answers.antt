use Rattle.imagined_laws.proofs.Parts.{given_once as law}
use Rattle.imagined_laws.proofs.laws.given_once.Goals as goal

pub returns : goal.returns
returns c = law
