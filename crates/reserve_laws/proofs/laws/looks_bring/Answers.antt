use Rattle.reserve_laws.proofs.Looks.{looks_bring as law}
use Rattle.reserve_laws.proofs.laws.looks_bring.Goals as goal

pub returns : goal.returns
returns c = law
