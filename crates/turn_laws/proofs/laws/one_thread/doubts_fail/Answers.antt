use Rattle.turn_laws.proofs.WholeFsyncs.{doubts_fail as law}
use Rattle.turn_laws.proofs.laws.one_thread.doubts_fail.Goals as goal

pub returns : goal.returns
returns c = law
