use Rattle.turn_ties.proofs.Least.{grants_are_the_least as law}
use Rattle.turn_ties.proofs.laws.grants_are_the_least.Goals as goal

pub returns : goal.returns
returns c = law
