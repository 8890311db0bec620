use Rattle.turn_laws.proofs.Failed.{calls_fail as law}
use Rattle.turn_laws.proofs.laws.one_thread.calls_fail.Goals as goal

pub returns : goal.returns
returns c = law
