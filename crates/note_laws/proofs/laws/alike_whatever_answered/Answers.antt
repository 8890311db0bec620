use Rattle.note_laws.proofs.Answers.{alike_whatever_answered as law}
use Rattle.note_laws.proofs.laws.alike_whatever_answered.Goals as goal

pub returns : goal.returns
returns c = law
