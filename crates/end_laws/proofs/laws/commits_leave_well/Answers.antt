use Rattle.end_laws.proofs.Left.{commits_leave_well as law}
use Rattle.end_laws.proofs.laws.commits_leave_well.Goals as goal

pub returns : goal.returns
returns c = law
