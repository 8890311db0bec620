use Rattle.example_grants.proofs.Along.{writers_go_along as law}
use Rattle.example_grants.proofs.laws.writers_go_along.Goals as goal

pub returns : goal.returns
returns c = law
