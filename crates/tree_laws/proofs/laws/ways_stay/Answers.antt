use Rattle.tree_laws.proofs.Holders.{ways_stay as law}
use Rattle.tree_laws.proofs.laws.ways_stay.Goals as goal

pub returns : goal.returns
returns c = law
