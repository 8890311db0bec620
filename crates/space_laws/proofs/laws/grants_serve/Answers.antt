use Rattle.space_laws.proofs.Served.{grants_serve as law}
use Rattle.space_laws.proofs.laws.grants_serve.Goals as goal

pub returns : goal.returns
returns c = law
