use Rattle.beside_laws.proofs.Stepping.{commits_open as law}
use Rattle.beside_laws.proofs.laws.commits_open.Goals as goal

pub returns : goal.returns
returns c = law
