use Rattle.commit_laws.proofs.GrantWritten.{plans_write_apart as law}
use Rattle.commit_laws.proofs.laws.plans_write_apart.Goals as goal

pub returns : goal.returns
returns c = law
