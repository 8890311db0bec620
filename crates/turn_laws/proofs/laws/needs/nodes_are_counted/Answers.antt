use Rattle.turn_laws.proofs.ListedNeeds.{nodes_are_counted as law}
use Rattle.turn_laws.proofs.laws.needs.nodes_are_counted.Goals as goal

pub returns : goal.returns
returns c = law
