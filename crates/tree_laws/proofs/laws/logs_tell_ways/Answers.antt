use Rattle.tree_laws.proofs.LoggedWays.{logs_tell_ways as law}
use Rattle.tree_laws.proofs.laws.logs_tell_ways.Goals as goal

pub returns : goal.returns
returns c = law
