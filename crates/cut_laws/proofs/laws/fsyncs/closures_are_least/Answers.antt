use Rattle.cut_laws.proofs.LeastSet.{closures_are_least as law}
use Rattle.cut_laws.proofs.laws.fsyncs.closures_are_least.Goals as goal

pub returns : goal.returns
returns c = law
