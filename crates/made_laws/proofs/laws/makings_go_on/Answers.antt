use Rattle.made_laws.proofs.Later.{makings_go_on as law}
use Rattle.made_laws.proofs.laws.makings_go_on.Goals as goal

pub returns : goal.returns
returns c = law
