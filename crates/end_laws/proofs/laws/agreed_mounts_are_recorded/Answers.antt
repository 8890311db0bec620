use Rattle.end_laws.proofs.LacksAgreed.{agreed_mounts_are_recorded as law}
use Rattle.end_laws.proofs.laws.agreed_mounts_are_recorded.Goals as goal

pub returns : goal.returns
returns g c = law _
