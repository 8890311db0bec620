use Rattle.commit_laws.proofs.PlanShown.{plans_show_inodes as law}
use Rattle.commit_laws.proofs.laws.plans_show_inodes.Goals as goal

pub returns : goal.returns
returns c = law
