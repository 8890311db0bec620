use Rattle.landing_laws.proofs.Landed.{fsyncs_have_landed as law}
use Rattle.landing_laws.proofs.laws.fsyncs_have_landed.Goals as goal

pub returns : goal.returns
returns c = law
