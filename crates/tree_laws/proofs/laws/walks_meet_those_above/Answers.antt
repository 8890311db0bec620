use Rattle.tree_laws.proofs.Walks.{walks_meet_those_above as law}
use Rattle.tree_laws.proofs.laws.walks_meet_those_above.Goals as goal

pub returns : goal.returns
returns c = law
