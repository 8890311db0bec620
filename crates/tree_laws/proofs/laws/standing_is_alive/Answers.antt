use Rattle.tree_laws.proofs.Holders.{standing_is_alive as law}
use Rattle.tree_laws.proofs.laws.standing_is_alive.Goals as goal

pub returns : goal.returns
returns c = law
