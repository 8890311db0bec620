use Rattle.made_laws.proofs.Later.{owns_go_on as law}
use Rattle.made_laws.proofs.laws.owns_go_on.Goals as goal

pub returns : goal.returns
returns c = law
