use Rattle.dep_closure.proofs.True.{lists_are_closures as law}
use Rattle.dep_closure.proofs.laws.lists_are_closures.Goals as goal

pub returns : goal.returns
returns c = law
