use Rattle.tree_laws.proofs.Holders.{holders_stay as law}
use Rattle.tree_laws.proofs.laws.holders_stay.Goals as goal

pub returns : goal.returns
returns c = law
