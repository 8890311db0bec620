use Rattle.volume_laws.proofs.Mounts.{mounts_begin as law}
use Rattle.volume_laws.proofs.laws.mounts_begin.Goals as goal

pub returns : goal.returns
returns c = law
