use Rattle.slot_laws.proofs.Worked.{labels_can_be_met as law}
use Rattle.slot_laws.proofs.laws.labels_can_be_met.Goals as goal

pub returns : goal.returns
returns c = law
