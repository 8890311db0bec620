use Rattle.end_laws.proofs.Telling.{named_tell_along as law}
use Rattle.end_laws.proofs.laws.named_tell_along.Goals as goal

pub returns : goal.returns
returns g c = law _
