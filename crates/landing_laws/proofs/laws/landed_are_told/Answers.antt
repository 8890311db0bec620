use Rattle.landing_laws.proofs.Told.{landed_are_told as law}
use Rattle.landing_laws.proofs.laws.landed_are_told.Goals as goal

pub returns : goal.returns
returns c = law
