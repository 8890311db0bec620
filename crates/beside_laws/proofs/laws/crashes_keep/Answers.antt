use Rattle.beside_laws.proofs.Failing.{crashes_keep as law}
use Rattle.beside_laws.proofs.laws.crashes_keep.Goals as goal

pub returns : goal.returns
returns c = law
