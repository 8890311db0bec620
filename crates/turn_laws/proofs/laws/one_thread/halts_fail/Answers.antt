use Rattle.turn_laws.proofs.Failed.{halts_fail as law}
use Rattle.turn_laws.proofs.laws.one_thread.halts_fail.Goals as goal

pub returns : goal.returns
returns c = law
