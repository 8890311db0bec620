use Rattle.turn_laws.proofs.Behind.{grants_are_taken_up as law}
use Rattle.turn_laws.proofs.laws.turns.grants_are_taken_up.Goals as goal

pub returns : goal.returns
returns c = law
