use Rattle.tree_laws.proofs.Holders.{dead_stay_dead as law}
use Rattle.tree_laws.proofs.laws.dead_stay_dead.Goals as goal

pub returns : goal.returns
returns c = law
