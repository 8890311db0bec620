use Rattle.end_laws.proofs.Survives.{turns_of_mounts_end as law}
use Rattle.end_laws.proofs.laws.turns_of_mounts_end.Goals as goal

pub returns : goal.returns
returns g c = law _
