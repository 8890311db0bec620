use Rattle.beside_laws.proofs.Finding.{found_once as law}
use Rattle.beside_laws.proofs.laws.found_once.Goals as goal

pub returns : goal.returns
returns c = law
