use Rattle.commit_laws.proofs.PlanShown.{plans_keep_shown as law}
use Rattle.commit_laws.proofs.laws.plans_keep_shown.Goals as goal

pub returns : goal.returns
returns c = law
