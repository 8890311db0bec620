use Rattle.cut_laws.proofs.Covered.{fsyncs_cover as law}
use Rattle.cut_laws.proofs.laws.fsyncs.fsyncs_cover.Goals as goal

pub returns : goal.returns
returns c = law
