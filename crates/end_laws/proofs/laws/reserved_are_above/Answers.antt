use Rattle.end_laws.proofs.FreesReserved.{reserved_are_above as law}
use Rattle.end_laws.proofs.laws.reserved_are_above.Goals as goal

pub returns : goal.returns
returns c = law
