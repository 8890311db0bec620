use Rattle.turn_laws.proofs.Going.{ways_go_on as law}
use Rattle.turn_laws.proofs.laws.ways.ways_go_on.Goals as goal

pub returns : goal.returns
returns c = law
