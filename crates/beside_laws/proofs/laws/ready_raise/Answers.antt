use Rattle.beside_laws.proofs.Kept.{ready_raise as law}
use Rattle.beside_laws.proofs.laws.ready_raise.Goals as goal

pub returns : goal.returns
returns c = law
