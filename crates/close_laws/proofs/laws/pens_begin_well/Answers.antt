use Rattle.close_laws.proofs.PensFit.{pens_begin_well as law}
use Rattle.close_laws.proofs.laws.pens_begin_well.Goals as goal

pub returns : goal.returns
returns c = law
