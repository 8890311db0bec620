use Rattle.end_laws.proofs.Fitting.{mades_fit as law}
use Rattle.end_laws.proofs.laws.mades_fit.Goals as goal

pub returns : goal.returns
returns c = law
