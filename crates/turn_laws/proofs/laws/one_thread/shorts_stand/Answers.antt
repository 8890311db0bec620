use Rattle.turn_laws.proofs.WholeFsyncs.{shorts_stand as law}
use Rattle.turn_laws.proofs.laws.one_thread.shorts_stand.Goals as goal

pub returns : goal.returns
returns c = law
