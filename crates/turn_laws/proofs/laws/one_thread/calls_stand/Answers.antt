use Rattle.turn_laws.proofs.Standing.{calls_stand as law}
use Rattle.turn_laws.proofs.laws.one_thread.calls_stand.Goals as goal

pub returns : goal.returns
returns c = law
