use Rattle.beside_laws.proofs.Stepping.{commits_begin as law}
use Rattle.beside_laws.proofs.laws.commits_begin.Goals as goal

pub returns : goal.returns
returns c = law
