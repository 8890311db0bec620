use Rattle.dep_closure.proofs.Enough.{unflushed_is_enough as law}
use Rattle.dep_closure.proofs.laws.unflushed_is_enough.Goals as goal

pub returns : goal.returns
returns c = law
