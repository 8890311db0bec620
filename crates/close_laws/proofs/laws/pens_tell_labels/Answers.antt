use Rattle.close_laws.proofs.PensFit.{pens_tell_labels as law}
use Rattle.close_laws.proofs.laws.pens_tell_labels.Goals as goal

pub returns : goal.returns
returns c = law
