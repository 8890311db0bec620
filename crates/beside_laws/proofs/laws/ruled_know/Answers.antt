use Rattle.beside_laws.proofs.Ruled.{ruled_know as law}
use Rattle.beside_laws.proofs.laws.ruled_know.Goals as goal

pub returns : goal.returns
returns c = law
