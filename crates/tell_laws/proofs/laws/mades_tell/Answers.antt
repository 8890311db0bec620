use Rattle.tell_laws.proofs.Telling.{mades_tell as law}
use Rattle.tell_laws.proofs.laws.mades_tell.Goals as goal

pub returns : goal.returns
returns c = law
