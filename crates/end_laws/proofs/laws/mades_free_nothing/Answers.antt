use Rattle.end_laws.proofs.Frees.{mades_free_nothing as law}
use Rattle.end_laws.proofs.laws.mades_free_nothing.Goals as goal

pub returns : goal.returns
returns c = law
