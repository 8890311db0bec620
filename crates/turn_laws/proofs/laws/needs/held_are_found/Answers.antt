use Rattle.turn_laws.proofs.ListedNeeds.{held_are_found as law}
use Rattle.turn_laws.proofs.laws.needs.held_are_found.Goals as goal

pub returns : goal.returns
returns c = law
