use Rattle.commit_laws.proofs.CommitOfPlan.{plans_leave_trees as law}
use Rattle.commit_laws.proofs.laws.plans_leave_trees.Goals as goal

pub returns : goal.returns
returns c = law
