use Rattle.mem_rename.proofs.Fitted.{ready_cores_hold_all as law}
use Rattle.mem_rename.proofs.laws.ready_cores_hold_all.Goals as goal

pub returns : goal.returns
returns c = law
