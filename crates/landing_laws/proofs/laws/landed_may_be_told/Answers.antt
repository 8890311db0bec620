use Rattle.landing_laws.proofs.ToldDrafts.{landed_may_be_told as law}
use Rattle.landing_laws.proofs.laws.landed_may_be_told.Goals as goal

pub returns : goal.returns
returns c = law
