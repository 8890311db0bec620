use Rattle.beside_laws.proofs.Stepping.{commits_end as law}
use Rattle.beside_laws.proofs.laws.commits_end.Goals as goal

pub returns : goal.returns
returns c = law
