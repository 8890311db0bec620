use Rattle.commit_laws.proofs.PartsStand.{plans_leave_parts as law}
use Rattle.commit_laws.proofs.laws.plans_leave_parts.Goals as goal

pub returns : goal.returns
returns c = law
