use Rattle.dep_closure.proofs.True.{logs_are_true as law}
use Rattle.dep_closure.proofs.laws.logs_are_true.Goals as goal

pub returns : goal.returns
returns c = law
