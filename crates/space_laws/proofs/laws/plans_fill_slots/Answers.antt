use Rattle.space_laws.proofs.Filled.{plans_fill_slots as law}
use Rattle.space_laws.proofs.laws.plans_fill_slots.Goals as goal

pub returns : goal.returns
returns c = law
