use Rattle.look_laws.proofs.Fitting.{looks_fit as law}
use Rattle.look_laws.proofs.laws.looks_fit.Goals as goal

pub returns : goal.returns
returns c = law
