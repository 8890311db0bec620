use Rattle.sfs_image.proofs.GateLaws.{gate_opens as law}
use Rattle.sfs_image.proofs.laws.opened_gates_add.Goals as goal

pub returns : goal.returns
returns c = law
