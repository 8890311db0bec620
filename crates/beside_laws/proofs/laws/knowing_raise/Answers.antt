use Rattle.beside_laws.proofs.Raising.{knowing_raise as law}
use Rattle.beside_laws.proofs.laws.knowing_raise.Goals as goal

pub returns : goal.returns
returns c = law
