use Rattle.made_laws.proofs.Known.{mades_are_known as law}
use Rattle.made_laws.proofs.laws.mades_are_known.Goals as goal

pub returns : goal.returns
returns c = law
