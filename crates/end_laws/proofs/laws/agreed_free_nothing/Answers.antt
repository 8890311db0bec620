use Rattle.end_laws.proofs.Agreed.{agreed_free_nothing as law}
use Rattle.end_laws.proofs.laws.agreed_free_nothing.Goals as goal

pub returns : goal.returns
returns g c = law _
