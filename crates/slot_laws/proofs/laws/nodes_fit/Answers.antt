use Rattle.slot_laws.proofs.NodesTold.{nodes_fit}
use Rattle.slot_laws.proofs.laws.nodes_fit.Goals as goal

pub returns : goal.returns
returns c = nodes_fit
