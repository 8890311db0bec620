use Rattle.close_laws.proofs.Owing.{turns_stand_beside as law}
use Rattle.close_laws.proofs.laws.turns_stand_beside.Goals as goal

pub returns : goal.returns
returns c = law
