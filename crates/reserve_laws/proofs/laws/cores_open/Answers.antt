use Rattle.reserve_laws.proofs.Looks.{cores_open as law}
use Rattle.reserve_laws.proofs.laws.cores_open.Goals as goal

pub returns : goal.returns
returns c = law
