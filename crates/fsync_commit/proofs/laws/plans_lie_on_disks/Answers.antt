use Rattle.fsync_commit.proofs.OnPlans.{plans_lie_on_disks as law}
use Rattle.fsync_commit.proofs.laws.plans_lie_on_disks.Goals as goal

pub returns : goal.returns
returns c = law
