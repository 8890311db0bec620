use Rattle.note_laws.proofs.Saws.{saws_are_left as law}
use Rattle.note_laws.proofs.laws.saws_are_left.Goals as goal

pub returns : goal.returns
returns c = law
