use Rattle.slot_laws.proofs.Telling.{pens_go_on as law}
use Rattle.slot_laws.proofs.laws.pens_go_on.Goals as goal

pub returns : goal.returns
returns c = law
