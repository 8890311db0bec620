use Rattle.slot_laws.proofs.NodesTold.{reservings_knew}
use Rattle.slot_laws.proofs.laws.reservings_knew.Goals as goal

pub returns : goal.returns
returns c = reservings_knew
