use Rattle.close_laws.proofs.PensStand.{pens_stand_beside as law}
use Rattle.close_laws.proofs.laws.pens_stand_beside.Goals as goal

pub returns : goal.returns
returns c = law
