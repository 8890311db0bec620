use Rattle.example_laws.proofs.Resting.{two_cores_close as law}
use Rattle.example_laws.proofs.laws.two_cores_close.Goals as goal

pub returns : goal.returns
returns c = law
