use Rattle.end_laws.proofs.Told.{named_pens_tell as law}
use Rattle.end_laws.proofs.laws.named_pens_tell.Goals as goal

pub returns : goal.returns
returns g c = law _
