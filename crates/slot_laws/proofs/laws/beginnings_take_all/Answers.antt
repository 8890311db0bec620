use Rattle.slot_laws.proofs.Schedule.{beginnings_take_all as law}
use Rattle.slot_laws.proofs.laws.beginnings_take_all.Goals as goal

pub returns : goal.returns
returns c = law
