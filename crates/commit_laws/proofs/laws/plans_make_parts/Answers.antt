use Rattle.commit_laws.proofs.PartsMade.{plans_make_parts as law}
use Rattle.commit_laws.proofs.laws.plans_make_parts.Goals as goal

pub returns : goal.returns
returns c = law
