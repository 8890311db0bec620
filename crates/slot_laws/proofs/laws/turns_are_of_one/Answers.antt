use Rattle.slot_laws.proofs.Telling.{turns_are_of_one as law}
use Rattle.slot_laws.proofs.laws.turns_are_of_one.Goals as goal

pub returns : goal.returns
returns c = law
