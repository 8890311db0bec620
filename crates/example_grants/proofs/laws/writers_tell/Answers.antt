use Rattle.example_grants.proofs.Telling.{writers_tell as law}
use Rattle.example_grants.proofs.laws.writers_tell.Goals as goal

pub returns : goal.returns
returns c = law
