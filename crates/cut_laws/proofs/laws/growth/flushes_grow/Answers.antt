use Rattle.cut_laws.proofs.WholeHistory.{flushes_grow as law}
use Rattle.cut_laws.proofs.laws.growth.flushes_grow.Goals as goal

pub returns : goal.returns
returns c = law
