use Rattle.tree_laws.proofs.Holders.{read_holders_stay as law}
use Rattle.tree_laws.proofs.laws.read_holders_stay.Goals as goal

pub returns : goal.returns
returns c = law
