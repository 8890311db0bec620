use Rattle.pen_laws.proofs.Growing.{fsyncs_agree as law}
use Rattle.pen_laws.proofs.laws.fsyncs_agree.Goals as goal

pub returns : goal.returns
returns c = law
