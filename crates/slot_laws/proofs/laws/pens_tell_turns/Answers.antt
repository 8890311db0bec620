use Rattle.slot_laws.proofs.Telling.{pens_tell_turns as law}
use Rattle.slot_laws.proofs.laws.pens_tell_turns.Goals as goal

pub returns : goal.returns
returns c = law
