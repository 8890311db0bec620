use Rattle.slot_laws.proofs.Lawful.{pens_make_the_record as law}
use Rattle.slot_laws.proofs.laws.pens_make_the_record.Goals as goal

pub returns : goal.returns
returns c = law
