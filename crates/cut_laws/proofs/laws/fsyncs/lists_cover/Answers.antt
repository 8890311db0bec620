use Rattle.cut_laws.proofs.Lists.{lists_cover as law}
use Rattle.cut_laws.proofs.laws.fsyncs.lists_cover.Goals as goal

pub returns : goal.returns
returns c = law
