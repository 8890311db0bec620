use Rattle.turn_laws.proofs.ListedNeeds.{blocks_are_listed as law}
use Rattle.turn_laws.proofs.laws.needs.blocks_are_listed.Goals as goal

pub returns : goal.returns
returns c = law
