use Rattle.turn_ties.proofs.Made.{plans_are_made as law}
use Rattle.turn_ties.proofs.laws.plans_are_made.Goals as goal

pub returns : goal.returns
returns c = law
