use Rattle.slot_laws.proofs.NodesTold.{nodes_count}
use Rattle.slot_laws.proofs.laws.nodes_count.Goals as goal

pub returns : goal.returns
returns c = nodes_count
