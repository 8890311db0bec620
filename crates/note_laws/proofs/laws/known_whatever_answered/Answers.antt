use Rattle.note_laws.proofs.Answers.{known_whatever_answered as law}
use Rattle.note_laws.proofs.laws.known_whatever_answered.Goals as goal

pub returns : goal.returns
returns c = law
