use Rattle.commit_laws.proofs.RewrittenAsDefined.{plans_need_as_defined as law}
use Rattle.commit_laws.proofs.laws.plans_need_as_defined.Goals as goal

pub returns : goal.returns
returns c = law
