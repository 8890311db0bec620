use Rattle.turn_laws.proofs.WholeFsyncs.{given_back_stand as law}
use Rattle.turn_laws.proofs.laws.one_thread.given_back_stand.Goals as goal

pub returns : goal.returns
returns c = law
