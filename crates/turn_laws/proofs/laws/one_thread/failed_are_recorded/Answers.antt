use Rattle.turn_laws.proofs.Failed.{failed_are_recorded as law}
use Rattle.turn_laws.proofs.laws.one_thread.failed_are_recorded.Goals as goal

pub returns : goal.returns
returns c = law
