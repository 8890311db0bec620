use Rattle.end_laws.proofs.Recorded.{mounts_are_recorded as law}
use Rattle.end_laws.proofs.laws.mounts_are_recorded.Goals as goal

pub returns : goal.returns
returns g c = law _
