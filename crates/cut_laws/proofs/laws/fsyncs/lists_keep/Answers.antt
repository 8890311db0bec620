use Rattle.cut_laws.proofs.Lists.{lists_keep as law}
use Rattle.cut_laws.proofs.laws.fsyncs.lists_keep.Goals as goal

pub returns : goal.returns
returns c = law
