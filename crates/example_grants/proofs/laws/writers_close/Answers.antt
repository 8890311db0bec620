use Rattle.example_grants.proofs.Disk.{writers_close as law}
use Rattle.example_grants.proofs.laws.writers_close.Goals as goal

pub returns : goal.returns
returns c = law
