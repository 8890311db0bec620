use Rattle.look_laws.proofs.Knowing.{looks_know as law}
use Rattle.look_laws.proofs.laws.looks_know.Goals as goal

pub returns : goal.returns
returns c = law
