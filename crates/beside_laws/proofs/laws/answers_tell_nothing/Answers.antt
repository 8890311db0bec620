use Rattle.beside_laws.proofs.Answers.{answers_tell_nothing as law}
use Rattle.beside_laws.proofs.laws.answers_tell_nothing.Goals as goal

pub returns : goal.returns
returns c = law
