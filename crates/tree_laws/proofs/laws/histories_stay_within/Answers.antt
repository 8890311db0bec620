use Rattle.tree_laws.proofs.Limits.{histories_stay_within as law}
use Rattle.tree_laws.proofs.laws.histories_stay_within.Goals as goal

pub returns : goal.returns
returns c = law
