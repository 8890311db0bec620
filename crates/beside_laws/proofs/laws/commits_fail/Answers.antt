use Rattle.beside_laws.proofs.Failing.{commits_fail as law}
use Rattle.beside_laws.proofs.laws.commits_fail.Goals as goal

pub returns : goal.returns
returns c = law
