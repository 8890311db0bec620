use Rattle.beside_laws.proofs.Worked.{two_may_be_open as law}
use Rattle.beside_laws.proofs.laws.two_may_be_open.Goals as goal

pub returns : goal.returns
returns c = law
