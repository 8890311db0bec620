use Rattle.slot_laws.proofs.Lawful.{labels_rise as law}
use Rattle.slot_laws.proofs.laws.labels_rise.Goals as goal

pub returns : goal.returns
returns c = law
