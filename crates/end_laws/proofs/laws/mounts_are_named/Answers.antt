use Rattle.end_laws.proofs.Named.{mounts_are_named as law}
use Rattle.end_laws.proofs.laws.mounts_are_named.Goals as goal

pub returns : goal.returns
returns g c = law _
