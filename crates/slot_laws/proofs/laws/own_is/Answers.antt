use Rattle.slot_laws.proofs.Lawful.{own_is as law}
use Rattle.slot_laws.proofs.laws.own_is.Goals as goal

pub returns : goal.returns
returns c = law
