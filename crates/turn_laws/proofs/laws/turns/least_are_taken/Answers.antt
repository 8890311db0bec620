use Rattle.turn_laws.proofs.Least.{least_are_taken as law}
use Rattle.turn_laws.proofs.laws.turns.least_are_taken.Goals as goal

pub returns : goal.returns
returns c = law
