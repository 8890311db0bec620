use Rattle.look_laws.proofs.Making.{looks_are_made as law}
use Rattle.look_laws.proofs.laws.looks_are_made.Goals as goal

pub returns : goal.returns
returns c = law
