use Rattle.slot_laws.proofs.NodesTold.{noted_turns_keep_nodes}
use Rattle.slot_laws.proofs.laws.noted_turns_keep_nodes.Goals as goal

pub returns : goal.returns
returns c = noted_turns_keep_nodes
