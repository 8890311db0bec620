use Rattle.example_laws.proofs.Along.{are_two_cores as law}
use Rattle.example_laws.proofs.laws.are_two_cores.Goals as goal

pub returns : goal.returns
returns c = law
