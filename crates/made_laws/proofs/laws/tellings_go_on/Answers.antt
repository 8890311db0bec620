use Rattle.made_laws.proofs.Owns.{tellings_go_on as law}
use Rattle.made_laws.proofs.laws.tellings_go_on.Goals as goal

pub returns : goal.returns
returns c = law
