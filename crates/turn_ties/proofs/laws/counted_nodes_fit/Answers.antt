use Rattle.turn_ties.proofs.Fits.{counted_nodes_fit as law}
use Rattle.turn_ties.proofs.laws.counted_nodes_fit.Goals as goal

pub returns : goal.returns
returns c = law
