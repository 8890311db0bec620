use Rattle.commit_laws.proofs.BytesKept.{plans_leave_good_bytes as law}
use Rattle.commit_laws.proofs.laws.plans_leave_good_bytes.Goals as goal

pub returns : goal.returns
returns c = law
