use Rattle.space_laws.proofs.Filled.{grants_serve_plans as law}
use Rattle.space_laws.proofs.laws.grants_serve_plans.Goals as goal

pub returns : goal.returns
returns c = law
