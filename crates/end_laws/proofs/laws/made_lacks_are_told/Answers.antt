use Rattle.end_laws.proofs.Lacking.{made_lacks_are_told as law}
use Rattle.end_laws.proofs.laws.made_lacks_are_told.Goals as goal

pub returns : goal.returns
returns g c = law _
