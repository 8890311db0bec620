use Rattle.reserve_laws.proofs.Plans.{plans_bring as law}
use Rattle.reserve_laws.proofs.laws.plans_bring.Goals as goal

pub returns : goal.returns
returns c = law
