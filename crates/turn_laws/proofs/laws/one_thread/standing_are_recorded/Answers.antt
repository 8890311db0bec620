use Rattle.turn_laws.proofs.Failed.{standing_are_recorded as law}
use Rattle.turn_laws.proofs.laws.one_thread.standing_are_recorded.Goals as goal

pub returns : goal.returns
returns c = law
