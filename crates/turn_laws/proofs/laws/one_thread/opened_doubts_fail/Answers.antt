use Rattle.turn_laws.proofs.WholeFsyncs.{opened_doubts_fail as law}
use Rattle.turn_laws.proofs.laws.one_thread.opened_doubts_fail.Goals as goal

pub returns : goal.returns
returns c = law
