use Rattle.tell_laws.proofs.Own.{owns_tell as law}
use Rattle.tell_laws.proofs.laws.owns_tell.Goals as goal

pub returns : goal.returns
returns c = law
