use Rattle.end_laws.proofs.Mounted.{mounts_keep_well as law}
use Rattle.end_laws.proofs.laws.mounts_keep_well.Goals as goal

pub returns : goal.returns
returns c = law
