use Rattle.flush_agrees.proofs.Growing.{agreeing_cores_tell as law}
use Rattle.flush_agrees.proofs.laws.agreeing_cores_tell.Goals as goal

pub returns : goal.returns
returns g c = law _
