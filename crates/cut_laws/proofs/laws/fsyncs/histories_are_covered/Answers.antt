use Rattle.cut_laws.proofs.Lists.{histories_are_covered as law}
use Rattle.cut_laws.proofs.laws.fsyncs.histories_are_covered.Goals as goal

pub returns : goal.returns
returns c = law
