use Rattle.sfs_image.proofs.GateLaws.{gate_shuts as law}
use Rattle.sfs_image.proofs.laws.shut_gates_keep.Goals as goal

pub returns : goal.returns
returns c = law
