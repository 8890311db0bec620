use Rattle.made_laws.proofs.Later.{mades_go_on as law}
use Rattle.made_laws.proofs.laws.mades_go_on.Goals as goal

pub returns : goal.returns
returns c = law
