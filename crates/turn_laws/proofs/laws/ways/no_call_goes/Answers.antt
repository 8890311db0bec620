use Rattle.turn_laws.proofs.Going.{no_call_goes as law}
use Rattle.turn_laws.proofs.laws.ways.no_call_goes.Goals as goal

pub returns : goal.returns
returns c = law
