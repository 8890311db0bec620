use Rattle.reserve_laws.proofs.Fits.{records_fit as law}
use Rattle.reserve_laws.proofs.laws.records_fit.Goals as goal

pub returns : goal.returns
returns c = law
