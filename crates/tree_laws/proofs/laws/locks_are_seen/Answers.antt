use Rattle.tree_laws.proofs.Holders.{locks_are_seen as law}
use Rattle.tree_laws.proofs.laws.locks_are_seen.Goals as goal

pub returns : goal.returns
returns c = law
