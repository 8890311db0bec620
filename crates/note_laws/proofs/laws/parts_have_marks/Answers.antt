use Rattle.note_laws.proofs.Marks.{parts_have_marks as law}
use Rattle.note_laws.proofs.laws.parts_have_marks.Goals as goal

pub returns : goal.returns
returns c = law
