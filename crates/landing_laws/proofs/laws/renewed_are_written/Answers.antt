use Rattle.landing_laws.proofs.Written.{renewed_are_written as law}
use Rattle.landing_laws.proofs.laws.renewed_are_written.Goals as goal

pub returns : goal.returns
returns c = law
