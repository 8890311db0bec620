use Rattle.tree_laws.proofs.Holders.{read_holders_are_above as law}
use Rattle.tree_laws.proofs.laws.read_holders_are_above.Goals as goal

pub returns : goal.returns
returns c = law
