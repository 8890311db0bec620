use Rattle.slot_laws.proofs.Lawful.{labels_count_faults as law}
use Rattle.slot_laws.proofs.laws.labels_count_faults.Goals as goal

pub returns : goal.returns
returns c = law
