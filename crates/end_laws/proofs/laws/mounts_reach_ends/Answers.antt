use Rattle.end_laws.proofs.Reaches.{mounts_reach_ends as law}
use Rattle.end_laws.proofs.laws.mounts_reach_ends.Goals as goal

pub returns : goal.returns
returns g c = law _
