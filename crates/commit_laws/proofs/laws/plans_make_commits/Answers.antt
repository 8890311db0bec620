use Rattle.commit_laws.proofs.CommitOfPlan.{plans_make_commits as law}
use Rattle.commit_laws.proofs.laws.plans_make_commits.Goals as goal

pub returns : goal.returns
returns c = law
