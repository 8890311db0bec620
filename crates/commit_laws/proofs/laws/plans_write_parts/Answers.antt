use Rattle.commit_laws.proofs.PartsTurned.{plans_write_parts as law}
use Rattle.commit_laws.proofs.laws.plans_write_parts.Goals as goal

pub returns : goal.returns
returns c = law
