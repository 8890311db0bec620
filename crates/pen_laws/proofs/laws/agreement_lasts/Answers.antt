use Rattle.pen_laws.proofs.Growing.{agreement_lasts as law}
use Rattle.pen_laws.proofs.laws.agreement_lasts.Goals as goal

pub returns : goal.returns
returns c = law
