use Rattle.history_check.proofs.Reached.{answers_are_one as law}
use Rattle.history_check.proofs.laws.answers_are_one.Goals as goal

pub returns : goal.returns
returns c = law
