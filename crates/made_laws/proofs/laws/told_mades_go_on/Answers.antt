use Rattle.made_laws.proofs.Told.{told_mades_go_on as law}
use Rattle.made_laws.proofs.laws.told_mades_go_on.Goals as goal

pub returns : goal.returns
returns c = law
