use Rattle.end_laws.proofs.LacksAgreed.{lacks_are_agreed as law}
use Rattle.end_laws.proofs.laws.lacks_are_agreed.Goals as goal

pub returns : goal.returns
returns g c = law _
