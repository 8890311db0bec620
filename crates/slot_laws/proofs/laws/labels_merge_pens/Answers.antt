use Rattle.slot_laws.proofs.Lawful.{labels_merge_pens as law}
use Rattle.slot_laws.proofs.laws.labels_merge_pens.Goals as goal

pub returns : goal.returns
returns c = law
